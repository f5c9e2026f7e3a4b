-- Pieces and what they are escaped to, computed.
use Rattle.std.specs.Prelude.{◌≡◌, true, false, [], ◌∷◌, codes, nat_eq, refl, ℕ, List, ◌++◌, map}
use Rattle.bpaf_roff.specs.Pieces.{pieces_after_push, Piece}
use Rattle.bpaf_roff.specs.Escaping.{escaped}
use Rattle.bpaf_roff.specs.Roff.{piece, control_pieces, plaintext_pieces, text_pieces, rendering}
use Rattle.bpaf_roff.specs.declared.escape.Apostrophes.TheVariants.{Handle, DontHandle}
use Rattle.bpaf_roff.specs.declared.escape.Escape.TheVariants.{Special, SpecialNoNewline, Unescaped}
use Rattle.bpaf_roff.specs.declared.roff.Font.TheVariants.{Roman, Bold, Italic}
use Rattle.bpaf_roff.specs.declared.escape.Escape.{Escape}

-- a text under the last label goes into the last piece
joined : pieces_after_push nat_eq true (record { label = 7; text = codes "a" } ∷ []) 7 (codes "b") ≡ record { label = 7; text = codes "ab" } ∷ []
joined = refl

-- plain text, a control and texts in fonts, escaped
texts : escaped Handle (piece Special (codes "'a-b\n.c") ∷ []) ≡ codes "\\&\\*(Aqa\\-b\n\\&.c"
    × escaped Handle (control_pieces (codes "TH") (codes "a b" ∷ [] ∷ [])) ≡ codes ".TH a\\ b \"\"\n"
    × escaped DontHandle (plaintext_pieces true (codes "a\nb")) ≡ codes "a b"
    × escaped Handle (text_pieces false ((Bold, codes "a") ∷ (Bold, codes "b") ∷ (Roman, codes "c") ∷ [])) ≡ codes "\\fBab\\fRc\\fP"
texts = (refl, refl, refl, refl)

-- pieces, and what they are escaped to
abbrev rows : List (List (Piece Escape) × List ℕ)
rows =
    (plaintext_pieces false (codes "abc"), codes "abc")
    ∷ (text_pieces false ((Roman, codes "foo") ∷ []), codes "\\fRfoo\\fP")
    ∷ (text_pieces false ((Roman, codes "roman") ∷ []), codes "\\fRroman\\fP")
    ∷ (plaintext_pieces false (codes "-"), codes "\\-")
    ∷ (plaintext_pieces false (codes "\\x"), codes "\\\\x")
    ∷ (plaintext_pieces false (codes "\\-"), codes "\\\\\\-")
    ∷ (plaintext_pieces false (codes "foo\n.bar\n'yo\n hmm"), codes "foo\n\\&.bar\n\\&'yo\n hmm")
    ∷ (plaintext_pieces false (codes "foo-bar"), codes "foo\\-bar")
    ∷ (text_pieces false ((Roman, codes "foo-bar") ∷ []), codes "\\fRfoo\\-bar\\fP")
    ∷ (text_pieces false ((Italic, codes "foo") ∷ []), codes "\\fIfoo\\fP")
    ∷ (text_pieces false ((Bold, codes "foo") ∷ []), codes "\\fBfoo\\fP")
    ∷ (text_pieces false ((Roman, codes ".roman") ∷ []), codes "\\fR.roman\\fP")
    ∷ (text_pieces false ((Roman, codes "foo\n.roman") ∷ []), codes "\\fRfoo\n\\&.roman\\fP")
    ∷ (text_pieces false ((Roman, codes "roman\n") ∷ []) ++ control_pieces (codes "br") [] ++ text_pieces false ((Roman, codes "more\n") ∷ []), codes "\\fRroman\n\\fP\n.br\n\\fRmore\n\\fP")
    ∷ (control_pieces (codes "foo") (codes "bar" ∷ codes "foo and bar" ∷ []), codes ".foo bar foo\\ and\\ bar\n")
    ∷ (text_pieces false ((Bold, codes "bold,") ∷ (Roman, codes " more bold") ∷ (Bold, codes " and more bold") ∷ []), codes "\\fBbold,\\fR more bold\\fB and more bold\\fP")
    ∷ (control_pieces (codes "br") [] ++ control_pieces (codes "br") [] ++ control_pieces (codes "br") [], codes ".br\n.br\n.br\n")
    ∷ (control_pieces (codes "SH") (codes "A\n" ∷ []) ++ control_pieces (codes "PP") [], codes ".SH A\\ \n.PP\n")
    ∷ (control_pieces (codes "SH") (codes "A\\B" ∷ []), codes ".SH A\\\\B\n")
    ∷ (control_pieces (codes "SH") (codes "A\\ " ∷ []), codes ".SH A\\\\\\ \n")
    ∷ (piece SpecialNoNewline (codes "a\n.b") ∷ [], codes "a .b")
    ∷ []

escaped_rows : map (λ row. escaped DontHandle row.0) rows ≡ map (λ row. row.1) rows
escaped_rows = refl

row_1 : ◌≡◌ (escaped Handle (piece Unescaped (codes "\\fI") ∷ piece Special (codes "test") ∷ piece Unescaped (codes "\\fP") ∷ [])) (codes "\\fItest\\fP")
row_1 = refl

row_2 : ◌≡◌ (escaped Handle (piece Special (codes "'a'") ∷ [])) (codes "\\&\\*(Aqa\\*(Aq")
row_2 = refl

row_3 : ◌≡◌ (codes "z" ++ escaped DontHandle (piece Special (codes ".a") ∷ [])) (codes "z\\&.a")
row_3 = refl

row_4 : ◌≡◌ (pieces_after_push nat_eq false (pieces_after_push nat_eq false (pieces_after_push nat_eq false [] 97 (codes "string ")) 98 (codes "more string")) 100 (codes "!")) (record { label = 97; text = codes "string " } ∷ record { label = 98; text = codes "more string" } ∷ record { label = 100; text = codes "!" } ∷ [])
row_4 = refl

row_5 : ◌≡◌ (pieces_after_push nat_eq true (pieces_after_push nat_eq true [] 97 (codes "x")) 97 (codes "y")) (record { label = 97; text = codes "xy" } ∷ [])
row_5 = refl

row_6 : ◌≡◌ (pieces_after_push nat_eq true ((record { label = 97; text = codes "x" } ∷ []) ++ record { label = 97; text = codes "y" } ∷ []) 97 (codes "z")) (record { label = 97; text = codes "x" } ∷ record { label = 97; text = codes "yz" } ∷ [])
row_6 = refl

row_7 : ◌≡◌ (rendering Handle (control_pieces (codes "TH") (codes "app" ∷ codes "1" ∷ codes "-" ∷ codes "-" ∷ [] ∷ []))) (codes ".ie \\n(.g .ds Aq \\(aq\n.el .ds Aq '\n.TH app 1 - - \"\"\n")
row_7 = refl
