-- Pages, each with what is written for it and how that reads, and texts that the reader refuses.
use Rattle.std.specs.Prelude.{◌≡◌, ℕ, List, [], ◌∷◌, ◌++◌, Option, Some, None, codes}
use Rattle.std.proofs.Common.{refl}
use Rattle.page_model.specs.Content.{words, literal, value, link, page, paragraph, code, bullets, heading, usage, block, entries, PartSaid}
use Rattle.page_model.specs.declared.parts.Rank.TheVariants.{Section, Subsection}
use Rattle.man_page.specs.Sheet.{Plain, Tagged, Bulleted, Roman, Bold, Italic, Usual, Columns, Said, Paragraph, Example, Sheet}
use Rattle.man_page.specs.Kept.{TitleSaid, page_kept, in_font}
use Rattle.man_page.specs.Exact.{page_text}
use Rattle.man_page.specs.Reader.{read}

abbrev title : TitleSaid
title = record { name = codes "a-b"; section = codes "1"; date = []; vendor = codes "v  %1"; title = codes "T'" }

abbrev front : List ℕ
front = codes ".TH a-b 1 \"\" \"v  \\N'37'1\" T\\(aq\n"

-- after the title line this is written, and it reads back
abbrev IsWrittenAs : List PartSaid → List ℕ → Type 0
IsWrittenAs parts bytes = (page_text title parts ≡ front ++ bytes) × (read (front ++ bytes) ≡ Some (page_kept title parts))

pub writes :
    -- nothing but a title line
    IsWrittenAs [] []
    -- headings: with two blanks, with signs, an empty one, and one as usual
    × IsWrittenAs (heading Section (codes "A  B") ∷ heading Subsection (codes "'.\"\\") ∷ heading Section [] ∷ heading Section (codes "A b") ∷ [])
    (codes ".SH A\\~\\~B\n.SS \\(aq.\\(dq\\e\n.SH \\&\n.SH A b\n")
    -- a paragraph with a line break, one with an empty line, and one with none, which is nothing
    × IsWrittenAs (heading Section (codes "A") ∷ block (paragraph ((words (codes ".a ") ∷ literal (codes "-b") ∷ []) ∷ (value (codes " c ") ∷ page (codes "p-q") ∷ []) ∷ [])) ∷ block (paragraph ([] ∷ [])) ∷ block (paragraph []) ∷ [])
    (codes ".SH A\n\\&.a \\fB\\%\\-b\\fP\n.br\n\\fI c \\fP\\fB\\%p\\-q\\fP(1)\n.PP\n\\&\n.PP\n")
    -- an entry with two terms, and code, items and a paragraph in its body; and one without anything
    × IsWrittenAs (entries (record { word = []; target = None; terms = (literal (codes "-a") ∷ []) ∷ (literal (codes "--all") ∷ words (codes "=") ∷ value (codes "X") ∷ []) ∷ []; body = paragraph ((words (codes "p") ∷ []) ∷ (words (codes "q") ∷ []) ∷ []) ∷ code (codes ".x " ∷ [] ∷ codes "  y" ∷ []) ∷ bullets (((words (codes "i") ∷ []) ∷ []) ∷ []) ∷ paragraph ((link (codes "l") ∷ []) ∷ []) ∷ [] } ∷ record { word = []; target = None; terms = []; body = [] } ∷ []) ∷ [])
    (codes ".TP\n\\fB\\-a\\fP, \\fB\\-\\-all\\fP=\\fIX\\fP\np\n.br\nq\n.RS\n.PP\n.RS 4\n.EX\n\\&.x \\&\n\n  y\n.EE\n.RE\n.RE\n.RS\n.IP \\(bu 2\ni\n.RE\n.IP\nl\n.TP\n\\&\n")
    -- literals at the front of a word and within one, of other letters, and without a letter
    × IsWrittenAs (block (paragraph ((words (codes "a (") ∷ literal (codes "--b") ∷ words (codes "), ") ∷ literal (codes "c ") ∷ literal (195 ∷ 169 ∷ []) ∷ literal (codes "d") ∷ words (codes "\n") ∷ literal (codes "-1") ∷ []) ∷ (words [] ∷ literal (codes "e") ∷ page (codes "f") ∷ []) ∷ [])) ∷ [])
    (codes ".PP\na (\\fB\\-\\-b\\fP), \\fB\\%c \\fP\\fB\\%" ++ (195 ∷ 169 ∷ codes "\\fP\\fBd\\fP \\fB\\-1\\fP\n.br\n\\fB\\%e\\fP\\fBf\\fP(1)\n"))
    -- items, one of which has lines that begin with a glyph and one of which has none; and code
    × IsWrittenAs (block (bullets (((words (codes "'i") ∷ []) ∷ (words (codes "^k ") ∷ []) ∷ (words (codes "~l") ∷ []) ∷ []) ∷ [] ∷ ((literal (codes "j") ∷ []) ∷ []) ∷ [])) ∷ block (code (codes "\t.%" ∷ codes "\"" ∷ [])) ∷ [])
    (codes ".IP \\(bu 2\n\\&\\(aqi\n.br\n\\&\\(hak \\&\n.br\n\\&\\(til\n.IP \\(bu 2\n.IP \\(bu 2\n\\fB\\%j\\fP\n.PP\n.RS 4\n.EX\n\t.%\n\\&\\(dq\n.EE\n.RE\n")
    -- usages, one of which has no name, with items that would end a sentence
    × IsWrittenAs (usage (record { name = codes "a b"; items = (words (codes "[") ∷ literal (codes "-a") ∷ words (codes " B]") ∷ []) ∷ (words (codes ".") ∷ []) ∷ [] ∷ (words (codes "[") ∷ value (codes "X...") ∷ words (codes "]") ∷ []) ∷ (literal (codes "a?'") ∷ []) ∷ (words (codes "!") ∷ page (codes "p") ∷ []) ∷ (words (codes ".x") ∷ []) ∷ [] } ∷ record { name = []; items = [] } ∷ []) ∷ [])
    (codes ".SY \"a b\"\n[\\fB\\-a\\fP\\~B]\n\\&.\\&\n\\&\n[\\fIX...\\fP]\\&\n\\fBa?\\(aq\\fP\\&\n!\\fBp\\fP(1)\n\\&.x\n.YS\n.SY \"\"\n.YS\n")
writes = ((refl, refl), (refl, refl), (refl, refl), (refl, refl), (refl, refl), (refl, refl), (refl, refl))

-- ---- what the reader reads

abbrev after : List ℕ → Option Sheet
after bytes = read (codes ".TH a 1\n" ++ bytes)

abbrev says : List Said → Option Sheet
says said = Some (record { title = in_font Roman (codes "a") ∷ in_font Roman (codes "1") ∷ []; said = said })

abbrev plain : List ℕ → List Said
plain bytes = Paragraph [] Plain (in_font Roman bytes ∷ []) ∷ []

pub reads :
    -- lines that follow one another are one, with a blank between two
    (after (codes "a\nb\n") ≡ says (plain (codes "a b")))
    -- a request is not part of the text
    × (after (codes "a\n.PP\nb\n") ≡ says (plain (codes "a") ++ plain (codes "b")))
    -- but what follows a sign that shows nothing is
    × (after (codes "\\&.PP\n") ≡ says (plain (codes ".PP")))
    -- escapes
    × (after (codes "\\%\\-\\e\\~\\%\\(aq\\(ga\\(ha\\(ti\\(dq\\N'37'\n") ≡ says (plain (codes "-\\ '`^~\"%")))
    -- fonts
    × (after (codes "a\\fBb\\fP\\fIc\\fP\n") ≡ says (Paragraph [] Plain ((in_font Roman (codes "a") ++ (in_font Bold (codes "b") ++ in_font Italic (codes "c"))) ∷ []) ∷ []))
    -- a tag and its paragraph
    × (after (codes ".TP\nt\na\n.br\nb\n") ≡ says (Paragraph [] (Tagged (in_font Roman (codes "t"))) (in_font Roman (codes "a") ∷ in_font Roman (codes "b") ∷ []) ∷ []))
    -- an item, also one without text
    × (after (codes ".IP \\(bu 2\na\n.IP \\(bu 2\n") ≡ says (Paragraph [] Bulleted (in_font Roman (codes "a") ∷ []) ∷ Paragraph [] Bulleted [] ∷ []))
    -- an indent, and one of a number of columns in it
    × (after (codes ".RS\na\n.RE\n") ≡ says (Paragraph (Usual ∷ []) Plain (in_font Roman (codes "a") ∷ []) ∷ []))
    × (after (codes ".RS\n.RS 12\na\n.RE\nb\n.RE\n") ≡ says (Paragraph (Columns 12 ∷ Usual ∷ []) Plain (in_font Roman (codes "a") ∷ []) ∷ Paragraph (Usual ∷ []) Plain (in_font Roman (codes "b") ∷ []) ∷ []))
    -- lines of an example, with their blanks
    × (after (codes ".EX\n  a\n\n.EE\n") ≡ says (Example [] (in_font Roman (codes "  a") ∷ [] ∷ []) ∷ []))
reads = (refl, refl, refl, refl, refl, refl, refl, refl, refl, refl)

pub refuses :
    -- a page without a title line, with two, and with one whose quotes have no end
    (read (codes "a\n") ≡ None)
    × (after (codes ".TH b 1\n") ≡ None)
    × (read (codes ".TH \"a 1\n") ≡ None)
    -- a text that does not end with a newline
    × (after (codes "a") ≡ None)
    -- a line that is empty, or has a blank at an end
    × (after (codes "\n") ≡ None)
    × (after (codes " a\n") ≡ None)
    × (after (codes "a \n") ≡ None)
    -- other requests and escapes
    × (after (codes ".XX\n") ≡ None)
    × (after (codes "'a\n") ≡ None)
    × (after (codes "\\x\n") ≡ None)
    × (after (codes "a\\\n") ≡ None)
    -- a character by its number that is more than one byte, a control character, and one without a number
    × (after (codes "\\N'233'\n") ≡ None)
    × (after (codes "\\N'10'\n") ≡ None)
    × (after (codes "\\N''\n") ≡ None)
    -- a place to hyphenate, within a word and at its end
    × (after (codes "a\\%b\n") ≡ None)
    × (after (codes "(\\fB\\%\\-\\-a\\fP)\n") ≡ None)
    × (after (codes "a\\%\n") ≡ None)
    -- signs that are shown as others
    × (after (codes "a-b\n") ≡ None)
    × (after (codes "a'\n") ≡ None)
    -- a font that does not end in its line
    × (after (codes "\\fBa\n") ≡ None)
    -- a heading in double quotes, and one in an indent
    × (after (codes ".SH \"a\"\n") ≡ None)
    × (after (codes ".RS\n.SH a\n.RE\n") ≡ None)
    -- indents and examples that do not pair
    × (after (codes ".RE\n") ≡ None)
    × (after (codes ".RS\na\n") ≡ None)
    -- an example after a tag, and a synopsis in an indent
    × (after (codes ".TP\nt\n.EX\na\n.EE\n") ≡ None)
    × (after (codes ".IP\n.EX\na\n.EE\n") ≡ None)
    × (after (codes ".RS\n.SY a\n.YS\n.RE\n") ≡ None)
    -- an indent of no number
    × (after (codes ".RS 4x\na\n.RE\n") ≡ None)
    × (after (codes ".RS \na\n.RE\n") ≡ None)
    × (after (codes ".EX\na\n.PP\n.EE\n") ≡ None)
    × (after (codes ".EX\na\n") ≡ None)
    -- a line break where there is no line
    × (after (codes ".br\na\n") ≡ None)
refuses = (refl, refl, refl, refl, refl, refl, refl, refl, refl, refl, refl, refl, refl, refl, refl, refl, refl, refl, refl, refl, refl, refl, refl, refl, refl, refl, refl, refl, refl, refl, refl, refl)
