-- A new page.
use Rattle.std.proofs.Common.{◌≡◌, ◌<◌, ℕ, Bool, true, false, not, ◌&&◌, suc, List, [], ◌∷◌, refl, sym, ap, ◌∙◌, subst, length, reverse, arith, Ok}
use Rattle.std.specs.Prelude.{Option, None, ◌==◌}
use Rattle.std.specs.List.{list_any, list_all}
use Rattle.std.specs.Str.{IsUtf8, IsAscii, chars, is_utf8}
use Rattle.std.proofs.lemmas.Bool.{and_parts, and_from}
use Rattle.std.proofs.lemmas.Bool.Decides.{nat_tests}
use Rattle.std.proofs.lemmas.Str.{IsUtf8-from_ascii, chars-IsAscii, is_utf8-from_IsUtf8}
use Rattle.web_page.specs.Models.{IsFront, is_ink, is_language, is_language_byte}
use Rattle.web_page.specs.Reader.{is_permitted}
use Rattle.web_page.specs.Calls.{are_written, has_end_sign, head_content, is_written, new_page, page_fault, unless}
use Rattle.web_page.specs.Exact.{page_front}
use Rattle.web_page.specs.Steps.Open.{checked}
use Rattle.web_page.proofs.Held.{new_held}
use Rattle.web_page.proofs.Outcomes.{Outcome, outcome}
use Rattle.web_page.proofs.Pages.{clean_front, fit_head, front_reads}
use Rattle.web_page.proofs.Texts.{kept_text}
use Rattle.web_page.specs.declared.elements.Tag.TheVariants.{Body}
use Rattle.web_page.specs.declared.errors.PageError.{PageError}
use Rattle.web_page.specs.declared.errors.PageError.TheVariants as errors
use Rattle.web_page.specs.declared.writer.Open.{Open}

pub no_fault : (fault : Option PageError) → checked fault ≡ Ok tt → fault ≡ None
no_fault fault h1 = grind arith

holds : (b : Bool) (fault : PageError) (next : Option PageError) → unless b fault next ≡ None → (b ≡ true) × (next ≡ None)
holds b fault next h3 = grind arith

small : (b : ℕ) → is_language_byte b ≡ true → b < 128
small b h = grind (arith, nat_tests)

written : (b : ℕ) → is_language_byte b ≡ true → is_written b ≡ true
written b h = let s : b < 128 = small b h in grind (arith, nat_tests)

ascii : (bytes : List ℕ) → list_all is_language_byte bytes ≡ true → IsAscii bytes
ascii (b ∷ bytes) h (suc i) = ascii bytes (and_parts (is_language_byte b) (list_all is_language_byte bytes) h).1 i
ascii x h y = grind (arith, small, and_parts)

all_written : (bytes : List ℕ) → list_all is_language_byte bytes ≡ true → list_all is_written bytes ≡ true
all_written [] h = refl
all_written (b ∷ bytes) h = grind (arith, all_written bytes, and_parts, and_from, written)

language_utf8 : (bytes : List ℕ) → is_language bytes ≡ true → IsUtf8 bytes
language_utf8 bytes h = IsUtf8-from_ascii bytes (ascii bytes (and_parts (not (length bytes == 0)) (list_all is_language_byte bytes) h).1)

language_written : (bytes : List ℕ) → is_language bytes ≡ true → are_written bytes ≡ true
language_written bytes h = grind (arith, and_parts, chars-IsAscii, ascii, all_written)

not_so : (b : Bool) → not b ≡ true → b ≡ false
not_so b h1 = grind arith

-- what a page without a fault has
record IsBegun (language title style : List ℕ) : Type 0 where
  pub is_language : is_language language ≡ true
  pub has_ink : list_any is_ink title ≡ true
  pub no_sign : has_end_sign style ≡ false
  pub written : (are_written language ≡ true) × (are_written title ≡ true) × (are_written style ≡ true)

begun : (language title style : List ℕ) → page_fault language title style ≡ None → IsBegun language title style
begun language title style fault =
    let characters = unless (are_written title && are_written style) errors.Character None in
    let signs = unless (not (has_end_sign style)) errors.Style characters in
    let first = holds (is_language language) errors.Language (unless (list_any is_ink title) errors.Title signs) fault in
    let second = holds (list_any is_ink title) errors.Title signs first.1 in
    let third = holds (not (has_end_sign style)) errors.Style characters second.1 in
    let fourth = and_parts (are_written title) (are_written style) (holds (are_written title && are_written style) errors.Character None third.1).0 in
    record { is_language = first.0; has_ink = second.0; no_sign = not_so (has_end_sign style) third.0; written = (language_written language first.0, fourth.0, fourth.1) }

pub new_one : (language title style bytes : List ℕ) (at : ℕ) (here : Open) (outer : List Open) → IsUtf8 language → IsUtf8 title → IsUtf8 style → page_fault language title style ≡ None → bytes ≡ page_front language title style → at ≡ length bytes
    → here ≡ record { tag = Body; before = None; has_ink = false; in_link = false } → outer ≡ [] → Outcome bytes at here (reverse outer) (new_page language title style)
new_one language title style bytes at here outer a b c fault e l h os =
    let is = begun language title style fault in
    let (spoken, titled, styled) = is.written in
    let held = new_held language title style (clean_front language title style a spoken b titled c styled) (kept_text language a spoken) (kept_text title b titled) (kept_text style c styled) is.no_sign is.is_language is.has_ink here h in
    subst (λ n. Outcome bytes n here (reverse outer) (new_page language title style)) (sym (l ∙ ap length e))
    (outcome (page_front language title style) bytes here here [] (reverse outer) (new_page language title style) held.0 held.1 e refl (ap reverse os))

-- each page without a fault has a front
pub front_is : (language title style : List ℕ) → IsUtf8 title → IsUtf8 style → page_fault language title style ≡ None → (front : List ℕ) × IsFront front language (head_content title style)
front_is language title style b c fault =
    let is = begun language title style fault in
    let (spoken, titled, styled) = is.written in
    let a : IsUtf8 language = language_utf8 language is.is_language in
    let front = page_front language title style in
    let clean = clean_front language title style a spoken b titled c styled in (
      front,
      record {
        is_text = and_from (is_utf8 front) (list_all is_permitted (chars front)) (is_utf8-from_IsUtf8 front clean.utf8) clean.permitted;
        reads = front_reads language title style (kept_text language a spoken) (kept_text title b titled) (kept_text style c styled) is.no_sign;
        is_language = is.is_language;
        fit = fit_head title style is.has_ink;
        encoded = refl;
      },
    )
