-- What has such texts alone passes the tests of a medium; and a text that passes them is such a text.
use Rattle.std.proofs.Common.{◌≡◌, ◌⊎◌, inl, inr, ℕ, suc, ◌<◌, ◌≤◌, Bool, true, false, not, List, [], ◌∷◌, length, get_or, Option, Some, None, refl, ap, arith}
use Rattle.std.specs.List.{list_all}
use Rattle.std.specs.Str.{NonePass, chars, is_utf8}
use Rattle.std.proofs.lemmas.Bool.{and_from, and_parts, cases_lt}
use Rattle.std.proofs.lemmas.Bool.Decides.{nat_tests}
use Rattle.std.proofs.lemmas.Str.{IsUtf8-from_is_utf8, NoCharPasses-byte, encodes-chars}
use Rattle.page_model.specs.Content.{Piece, words, literal, value, link, page, Line, BlockSaid, paragraph, code, bullets, TargetSaid, to_page, to_heading, EntrySaid, FormSaid}
use Rattle.page_model.specs.Permitted.{are_permitted, has_permitted_content, is_permitted, is_permitted_block, is_permitted_byte, is_permitted_entry, is_permitted_form, is_permitted_line, is_permitted_piece, leads_to_permitted}
use Rattle.page_laws.specs.Laws.{is_fit}
use Rattle.page_laws.proofs.Blocks.{BlockIs, LineIs, Permitted, PieceIs}
use Rattle.page_laws.proofs.Each.{Each}
use Rattle.page_laws.proofs.Entries.{ContentIs, EntryIs, TargetIs}
use Rattle.page_laws.proofs.Usage.{FormIs}

-- ---- what the tests of a medium say

bytes_pass : (text : List ℕ) → ((i : ℕ) → i < length text → is_permitted_byte (get_or text i 0) ≡ true) → list_all is_permitted_byte text ≡ true
bytes_pass [] h = refl
bytes_pass (b ∷ text) h = and_from (is_permitted_byte b) (list_all is_permitted_byte text) (h 0 (omega arith)) (bytes_pass text (λ i l. h (suc i) (omega arith)))

none_fails : (cs : List ℕ) → list_all is_permitted cs ≡ true → NonePass (λ c. not (is_permitted c)) cs
none_fails [] h = tt
none_fails (c ∷ cs) h = let both = and_parts (is_permitted c) (list_all is_permitted cs) h in (ap not both.0, none_fails cs both.1)

low_byte : (b : ℕ) → not (is_permitted b) ≡ false → b < 128 → is_permitted_byte b ≡ true
low_byte b h l = grind (arith, nat_tests)

high_byte : (b : ℕ) → 128 ≤ b → is_permitted_byte b ≡ true
high_byte b h = grind (arith, nat_tests)

pub text_passes : (text : List ℕ) → Permitted text → are_permitted text ≡ true
text_passes text h = and_from (list_all is_permitted_byte text) (list_all is_permitted (chars text)) (bytes_pass text byte) h.characters where
  byte : (i : ℕ) → i < length text → is_permitted_byte (get_or text i 0) ≡ true
  byte i l = by (cases_lt (get_or text i 0) 128) where
    by : (get_or text i 0 < 128) ⊎ (128 ≤ get_or text i 0) → is_permitted_byte (get_or text i 0) ≡ true
    by (inl small) = low_byte (get_or text i 0) (NoCharPasses-byte (λ c. not (is_permitted c)) text i (chars text, encodes-chars text h.utf8, none_fails (chars text) h.characters) l small) small
    by (inr big) = high_byte (get_or text i 0) big

pub all_pass : {X : Type 0} (P : X → Type 0) (test : X → Bool) → ((x : X) → P x → test x ≡ true) → (xs : List X) → Each P xs → list_all test xs ≡ true
all_pass P test k [] h = refl
all_pass P test k (x ∷ xs) h = and_from (test x) (list_all test xs) (k x h.0) (all_pass P test k xs h.1)

piece_passes : (piece : Piece) → PieceIs piece → is_permitted_piece piece ≡ true
piece_passes (words text) h = text_passes text h
piece_passes (literal text) h = text_passes text h
piece_passes (value text) h = text_passes text h
piece_passes (link text) h = text_passes text h
piece_passes (page name) h = text_passes name h

pub line_passes : (line : Line) → LineIs line → is_permitted_line line ≡ true
line_passes line h = all_pass PieceIs is_permitted_piece piece_passes line h

pub lines_pass : (lines : List Line) → Each LineIs lines → list_all is_permitted_line lines ≡ true
lines_pass lines h = all_pass LineIs is_permitted_line line_passes lines h

pub block_passes : (b : BlockSaid) → BlockIs b → is_permitted_block b ≡ true
block_passes (paragraph lines) h = lines_pass lines h
block_passes (code lines) h = all_pass Permitted are_permitted text_passes lines h
block_passes (bullets items) h = all_pass (Each LineIs) (list_all is_permitted_line) lines_pass items h

pub target_passes : (target : Option TargetSaid) → TargetIs target → leads_to_permitted target ≡ true
target_passes None h = refl
target_passes (Some (to_page name)) h = text_passes name h
target_passes (Some (to_heading title)) h = text_passes title h

pub content_passes : (e : EntrySaid) → ContentIs e → has_permitted_content e ≡ true
content_passes e h = and_from (list_all is_permitted_line e.terms) (list_all is_permitted_block e.body) (lines_pass e.terms h.0) (all_pass BlockIs is_permitted_block block_passes e.body h.1)

pub entry_passes : (e : EntrySaid) → EntryIs e → is_permitted_entry e ≡ true
entry_passes e h = and_from (leads_to_permitted e.target) (has_permitted_content e) (target_passes e.target h.target) (content_passes e h.content)

pub form_passes : (form : FormSaid) → FormIs form → is_permitted_form form ≡ true
form_passes form h = and_from (are_permitted form.name) (list_all is_permitted_line form.items) (text_passes form.name h.0) (lines_pass form.items h.1)

-- ---- the other way

pub text_known : (text : List ℕ) → is_fit text ≡ true → Permitted text
text_known text h =
    let fit = and_parts (is_utf8 text) (are_permitted text) h in
    let passes = and_parts (list_all is_permitted_byte text) (list_all is_permitted (chars text)) fit.1 in
    record { utf8 = IsUtf8-from_is_utf8 text fit.0; characters = passes.1 }

pub texts_known : (texts : List (List ℕ)) → list_all is_fit texts ≡ true → Each Permitted texts
texts_known [] h = tt
texts_known (text ∷ texts) h = let both = and_parts (is_fit text) (list_all is_fit texts) h in (text_known text both.0, texts_known texts both.1)
