-- How the words of requests are read: those of the title line, the name of a synopsis, and headings.
use Rattle.std.proofs.Common.{◌≡◌, ℕ, Bool, true, false, not, ◌&&◌, List, [], ◌∷◌, ◌++◌, ◌⊎◌, inl, inr, refl, sym, ap, ◌∙◌, append-nil, append_assoc}
use Rattle.std.specs.Prelude.{Option, Some, None, fold, map, codes, ◌==◌, if◌then◌else◌}
use Rattle.std.specs.List.{list_all, list_any}
use Rattle.std.proofs.lemmas.Bool.{and_parts, and_from, ne_eqb}
use Rattle.std.proofs.lemmas.List.Sums.{fold-append}
use Rattle.page_model.specs.Permitted.{is_permitted_byte}
use Rattle.man_page.specs.Sheet.{Roman, Glyph}
use Rattle.man_page.specs.Kept.{TitleSaid, in_font, title_words}
use Rattle.man_page.specs.Exact.{escaped, escaped_byte, is_blank, is_spaced_text, title_line, title_text, wants_quotes, word_text}
use Rattle.man_page.specs.Reader
use Rattle.man_page.specs.Reader.{Bare, Between, Closed, Place, Quoted, SectionHeading, SubsectionHeading, StartSynopsis, TitleLine, glyphs, heading_glyphs, is_spaced, line_of, next_word_byte, shown_words, whole_words, words_of}
use Rattle.man_page.specs.declared.escape.Role.{Role}
use Rattle.man_page.specs.declared.escape.Role.TheVariants.{Text, Item, Code, Title}
use Rattle.man_page.proofs.Glyphs.{IsPlain, OfSigns, all_written, by_signs, glyph_in, is_for_programs, is_inner, is_no_blank, is_solid, plain_escaped, text_reads, writes_inner, writes_item, writes_solid}
use Rattle.man_page.proofs.Inputs.{all_both, is_in_line, not_false, not_true, or_false, solid_parts, weaker}

pub bool_cases : (b : Bool) → (b ≡ true) ⊎ (b ≡ false)
bool_cases true = inl refl
bool_cases false = inr refl

-- ---- what is not blank is written with something

abbrev pub is_some_text : List ℕ → Bool
is_some_text [] = false
is_some_text (b ∷ bytes) = true

some_sign : (role : Role) → OfSigns (λ b. is_some_text (escaped_byte role b) ≡ true)
some_sign Text = (refl, refl, refl, refl, refl, refl, refl, refl, refl, refl, refl)
some_sign Item = (refl, refl, refl, refl, refl, refl, refl, refl, refl, refl, refl)
some_sign Code = (refl, refl, refl, refl, refl, refl, refl, refl, refl, refl, refl)
some_sign Title = (refl, refl, refl, refl, refl, refl, refl, refl, refl, refl, refl)

some_byte : (role : Role) (b : ℕ) → is_some_text (escaped_byte role b) ≡ true
some_byte role b = by_signs (λ c. is_some_text (escaped_byte role c) ≡ true) (some_sign role) (λ c plain. ap is_some_text (plain_escaped role c plain)) b

some_append : (a b : List ℕ) → is_some_text a ≡ true → is_some_text (a ++ b) ≡ true
some_append [] b h = cc
some_append (c ∷ a) b h = refl

pub some_escaped : (role : Role) (b : ℕ) (bytes : List ℕ) → is_some_text (escaped role (b ∷ bytes)) ≡ true
some_escaped role b bytes = some_append (escaped_byte role b) (escaped role bytes) (some_byte role b)

-- ---- a word

abbrev at_place : List (List ℕ) → Place → Option Reader.Words
at_place read place = Some (record { place = place; words = read })

abbrev words_run : Option Reader.Words → List ℕ → Option Reader.Words
words_run read bytes = fold next_word_byte read bytes

run_words : (r s t : Option Reader.Words) (a b : List ℕ) → words_run r a ≡ s → words_run s b ≡ t → words_run r (a ++ b) ≡ t
run_words r s t a b e f = fold-append next_word_byte r a b ∙ ap (λ x. words_run x b) e ∙ f

bare_read : (read : List (List ℕ)) (word bytes : List ℕ) → list_all is_solid bytes ≡ true → words_run (at_place read (Bare word)) bytes ≡ at_place read (Bare (word ++ bytes))
bare_read read word [] h = ap (λ x. at_place read (Bare x)) (sym (append-nil word))
bare_read read word (b ∷ bytes) h =
    let parts = and_parts (is_solid b) (list_all is_solid bytes) h in
    let both = solid_parts b parts.0 in
    let step : next_word_byte (at_place read (Bare word)) b ≡ at_place read (Bare (word ++ b ∷ [])) = rw (both.1, both.0) refl in
    ap (λ x. words_run x bytes) step
    ∙ bare_read read (word ++ b ∷ []) bytes parts.1
    ∙ ap (λ x. at_place read (Bare x)) (append_assoc word (b ∷ []) bytes)

first_read : (read : List (List ℕ)) (bytes : List ℕ) → is_some_text bytes ≡ true → list_all is_solid bytes ≡ true → words_run (at_place read Between) bytes ≡ at_place read (Bare bytes)
first_read read [] some h = cc
first_read read (b ∷ bytes) some h =
    let parts = and_parts (is_solid b) (list_all is_solid bytes) h in
    let both = solid_parts b parts.0 in
    let step : next_word_byte (at_place read Between) b ≡ at_place read (Bare (b ∷ [])) = rw (both.1, both.0) refl in
    ap (λ x. words_run x bytes) step ∙ bare_read read (b ∷ []) bytes parts.1

quoted_read : (read : List (List ℕ)) (word bytes : List ℕ) → list_all is_inner bytes ≡ true → words_run (at_place read (Quoted word)) bytes ≡ at_place read (Quoted (word ++ bytes))
quoted_read read word [] h = ap (λ x. at_place read (Quoted x)) (sym (append-nil word))
quoted_read read word (b ∷ bytes) h =
    let parts = and_parts (is_inner b) (list_all is_inner bytes) h in
    let step : next_word_byte (at_place read (Quoted word)) b ≡ at_place read (Quoted (word ++ b ∷ [])) = rw (not_true (b == 34) (and_parts (not (b == 10)) (not (b == 34)) parts.0).1) refl in
    ap (λ x. words_run x bytes) step
    ∙ quoted_read read (word ++ b ∷ []) bytes parts.1
    ∙ ap (λ x. at_place read (Quoted x)) (append_assoc word (b ∷ []) bytes)

none_blank : (bytes : List ℕ) → list_any is_blank bytes ≡ false → list_all is_no_blank bytes ≡ true
none_blank [] h = refl
none_blank (b ∷ bytes) h =
    let parts = or_false (is_blank b) (list_any is_blank bytes) h in
    and_from (is_no_blank b) (list_all is_no_blank bytes) (not_false (is_blank b) parts.0) (none_blank bytes parts.1)

abbrev in_quotes : List ℕ → List ℕ
in_quotes bytes = codes "\"" ++ (bytes ++ codes "\"")

quotes_read : (read : List (List ℕ)) (bytes : List ℕ) → list_all is_inner bytes ≡ true → words_run (at_place read Between) (in_quotes bytes) ≡ at_place (read ++ bytes ∷ []) Closed
quotes_read read bytes h = run_words (at_place read (Quoted [])) (at_place read (Quoted bytes)) (at_place (read ++ bytes ∷ []) Closed) bytes (codes "\"") (quoted_read read [] bytes h) refl

word_bare : (read : List (List ℕ)) (role : Role) (word : List ℕ) → wants_quotes word ≡ false → words_run (at_place read Between) (escaped role word) ≡ at_place read (Bare (escaped role word))
word_bare read role [] h = cc
word_bare read role (b ∷ bytes) h = first_read read (escaped role (b ∷ bytes)) (some_escaped role b bytes) (all_written is_no_blank is_solid role (writes_solid role) (b ∷ bytes) (none_blank (b ∷ bytes) h))

-- a word is written in quotes or not
abbrev quoted_if : Bool → List ℕ → List ℕ
quoted_if quoted bytes = if quoted then in_quotes bytes else bytes

-- a word and the blank after it
word_then : (quoted : Bool) (read : List (List ℕ)) (bytes rest : List ℕ) → list_all is_inner bytes ≡ true
    → (quoted ≡ false → words_run (at_place read Between) bytes ≡ at_place read (Bare bytes))
    → words_run (at_place read Between) (quoted_if quoted bytes ++ (codes " " ++ rest)) ≡ words_run (at_place (read ++ bytes ∷ []) Between) rest
word_then true read bytes rest h bare = run_words (at_place read Between) (at_place (read ++ bytes ∷ []) Closed) _ (in_quotes bytes) (codes " " ++ rest) (quotes_read read bytes h) refl
word_then false read bytes rest h bare = run_words (at_place read Between) (at_place read (Bare bytes)) _ bytes (codes " " ++ rest) (bare refl) refl

-- the last word
word_last : (quoted : Bool) (read : List (List ℕ)) (bytes : List ℕ) → list_all is_inner bytes ≡ true
    → (quoted ≡ false → words_run (at_place read Between) bytes ≡ at_place read (Bare bytes))
    → whole_words (words_run (at_place read Between) (quoted_if quoted bytes)) ≡ Some (read ++ bytes ∷ [])
word_last true read bytes h bare = ap whole_words (quotes_read read bytes h)
word_last false read bytes h bare = ap whole_words (bare refl)

module _ (role : Role) where
  inner_word : (word : List ℕ) → list_all is_permitted_byte word ≡ true → list_all is_inner (escaped role word) ≡ true
  inner_word word h = all_written is_permitted_byte is_inner role (writes_inner role) word h

  pub next_word : (read : List (List ℕ)) (word rest : List ℕ) → list_all is_permitted_byte word ≡ true
      → words_run (at_place read Between) (word_text role word ++ (codes " " ++ rest)) ≡ words_run (at_place (read ++ escaped role word ∷ []) Between) rest
  next_word read word rest h = word_then (wants_quotes word) read (escaped role word) rest (inner_word word h) (word_bare read role word)

  pub last_word : (read : List (List ℕ)) (word : List ℕ) → list_all is_permitted_byte word ≡ true
      → whole_words (words_run (at_place read Between) (word_text role word)) ≡ Some (read ++ escaped role word ∷ [])
  last_word read word h = word_last (wants_quotes word) read (escaped role word) (inner_word word h) (word_bare read role word)

  pub word_shown : (word : List ℕ) → list_all is_permitted_byte word ≡ true → glyphs (is_for_programs role) (escaped role word) ≡ Some (map (glyph_in role Roman) word)
  word_shown word h = ap Reader.end_of_line (text_reads role Roman [] word h)

  pub words_shown : (words : List (List ℕ)) → list_all (list_all is_permitted_byte) words ≡ true
      → shown_words (is_for_programs role) (map (escaped role) words) ≡ Some (map (map (glyph_in role Roman)) words)
  words_shown [] h = refl
  words_shown (word ∷ words) h =
      let parts = and_parts (list_all is_permitted_byte word) (list_all (list_all is_permitted_byte) words) h in
      ap (λ x. Reader.and_word x (shown_words (is_for_programs role) (map (escaped role) words))) (word_shown word parts.0)
      ∙ ap (Reader.and_word (Some (map (glyph_in role Roman) word))) (words_shown words parts.1)

  in_line_inner : (b : ℕ) → is_inner b ≡ true → is_in_line b ≡ true
  in_line_inner b h = (and_parts (not (b == 10)) (not (b == 34)) h).0

  in_line_quoted : (quoted : Bool) (bytes : List ℕ) → list_all is_in_line bytes ≡ true → list_all is_in_line (quoted_if quoted bytes) ≡ true
  in_line_quoted true bytes h = all_both is_in_line bytes (codes "\"") h refl
  in_line_quoted false bytes h = h

  pub word_inside : (word : List ℕ) → list_all is_permitted_byte word ≡ true → list_all is_in_line (word_text role word) ≡ true
  word_inside word h = in_line_quoted (wants_quotes word) (escaped role word) (weaker is_inner is_in_line in_line_inner (escaped role word) (inner_word word h))

-- ---- the title line

abbrev ArePermitted : List (List ℕ) → Type 0
ArePermitted texts = list_all (list_all is_permitted_byte) texts ≡ true

-- the words of a title line, with a blank between two
abbrev pub title_words_text : TitleSaid → List ℕ
title_words_text title =
    word_text Title title.name ++ (codes " " ++ (word_text Title title.section ++ (codes " "
    ++ (word_text Title title.date ++ (codes " " ++ (word_text Title title.vendor ++ (codes " "
    ++ word_text Title title.title)))))))

pub record TitleIsPermitted (said : TitleSaid) : Type 0 where
  pub name : list_all is_permitted_byte said.name ≡ true
  pub section : list_all is_permitted_byte said.section ≡ true
  pub date : list_all is_permitted_byte said.date ≡ true
  pub vendor : list_all is_permitted_byte said.vendor ≡ true
  pub title : list_all is_permitted_byte said.title ≡ true

pub title_words_read : (title : TitleSaid) → TitleIsPermitted title → words_of (title_words_text title) ≡ Some (map (escaped Title) (title_words title))
title_words_read title p =
    let e : List ℕ → List ℕ = escaped Title in
    let w : List ℕ → List ℕ = word_text Title in
    ap whole_words
    (next_word Title [] title.name (w title.section ++ (codes " " ++ (w title.date ++ (codes " " ++ (w title.vendor ++ (codes " " ++ w title.title)))))) p.name
    ∙ next_word Title (e title.name ∷ []) title.section (w title.date ++ (codes " " ++ (w title.vendor ++ (codes " " ++ w title.title)))) p.section
    ∙ next_word Title (e title.name ∷ e title.section ∷ []) title.date (w title.vendor ++ (codes " " ++ w title.title)) p.date
    ∙ next_word Title (e title.name ∷ e title.section ∷ e title.date ∷ []) title.vendor (w title.title) p.vendor)
    ∙ last_word Title (e title.name ∷ e title.section ∷ e title.date ∷ e title.vendor ∷ []) title.title p.title

all_permitted : (title : TitleSaid) → TitleIsPermitted title → ArePermitted (title_words title)
all_permitted title p =
    and_from (list_all is_permitted_byte title.name) _ p.name (and_from (list_all is_permitted_byte title.section) _ p.section (and_from (list_all is_permitted_byte title.date) _ p.date
    (and_from (list_all is_permitted_byte title.vendor) _ p.vendor (and_from (list_all is_permitted_byte title.title) true p.title refl))))

pub title_shown : (title : TitleSaid) → TitleIsPermitted title → shown_words true (map (escaped Title) (title_words title)) ≡ Some (map (in_font Roman) (title_words title))
title_shown title p = words_shown Title (title_words title) (all_permitted title p)

pub title_asks : (words : List ℕ) → line_of (codes ".TH " ++ words) ≡ Some (TitleLine words)
title_asks words = refl

spaces_inside : (a b : List ℕ) → list_all is_in_line a ≡ true → list_all is_in_line b ≡ true → list_all is_in_line (a ++ (codes " " ++ b)) ≡ true
spaces_inside a b h g = all_both is_in_line a (codes " " ++ b) h g

pub title_inside : (title : TitleSaid) → TitleIsPermitted title → list_all is_in_line (codes ".TH " ++ title_words_text title) ≡ true
title_inside title p =
    spaces_inside (word_text Title title.name) _ (word_inside Title title.name p.name)
    (spaces_inside (word_text Title title.section) _ (word_inside Title title.section p.section)
    (spaces_inside (word_text Title title.date) _ (word_inside Title title.date p.date)
    (spaces_inside (word_text Title title.vendor) (word_text Title title.title) (word_inside Title title.vendor p.vendor) (word_inside Title title.title p.title))))

regroup : (a b c d e s n : List ℕ) → (a ++ (s ++ (b ++ (s ++ (c ++ (s ++ (d ++ (s ++ e)))))))) ++ n ≡ a ++ (s ++ (b ++ (s ++ (c ++ (s ++ (d ++ (s ++ (e ++ n))))))))
regroup a b c d e s n = simp append_assoc

pub title_line_is : (title : TitleSaid) → (codes ".TH " ++ title_words_text title) ++ codes "\n" ≡ title_line title
title_line_is title =
    ap (λ x. codes ".TH " ++ x) (regroup (word_text Title title.name) (word_text Title title.section) (word_text Title title.date) (word_text Title title.vendor) (word_text Title title.title) (codes " ") (codes "\n"))

-- ---- the name of a synopsis

pub synopsis_asks : (words : List ℕ) → line_of (codes ".SY " ++ words) ≡ Some (StartSynopsis words)
synopsis_asks words = refl

pub name_shown : (name : List ℕ) → list_all is_permitted_byte name ≡ true → Reader.shown_if false (words_of (word_text Text name)) ≡ Some (in_font Roman name ∷ [])
name_shown name h =
    ap (Reader.shown_if false) (last_word Text [] name h)
    ∙ words_shown Text (name ∷ []) (and_from (list_all is_permitted_byte name) true h refl)

-- ---- headings

pub section_asks : (words : List ℕ) → line_of (codes ".SH " ++ words) ≡ Some (SectionHeading words)
section_asks words = refl

pub subsection_asks : (words : List ℕ) → line_of (codes ".SS " ++ words) ≡ Some (SubsectionHeading words)
subsection_asks words = refl

abbrev SpacedByte : ℕ → Type 0
SpacedByte b = (after : Bool) (rest : List ℕ) → is_spaced after (escaped_byte Text b ++ rest) ≡ (if is_blank b then not after && is_spaced true rest else is_spaced false rest)

spaced_sign : OfSigns SpacedByte
spaced_sign = (λ after rest. refl, λ after rest. refl, λ after rest. refl, λ after rest. refl, λ after rest. refl, λ after rest. refl, λ after rest. refl, λ after rest. refl, λ after rest. refl, λ after rest. refl, λ after rest. refl)

spaced_plain : (b : ℕ) → IsPlain b → SpacedByte b
spaced_plain b p after rest =
    ap (λ x. is_spaced after (x ++ rest)) (plain_escaped Text b p)
    ∙ rw (ne_eqb b 32 p.no_blank, ne_eqb b 9 p.no_tab, ne_eqb b 10 p.no_newline, ne_eqb b 34 p.no_double_quote) refl

spaced_text : (after : Bool) (text : List ℕ) → is_spaced after (escaped Text text) ≡ is_spaced_text after text
spaced_text after [] = refl
spaced_text after (b ∷ text) =
    by_signs SpacedByte spaced_sign spaced_plain b after (escaped Text text)
    ∙ ap (λ x. if is_blank b then not after && x else is_spaced false (escaped Text text)) (spaced_text true text)
    ∙ ap (λ x. if is_blank b then not after && is_spaced_text true text else x) (spaced_text false text)

solid_step : (after : Bool) (b : ℕ) (bytes : List ℕ) → list_all is_solid (b ∷ bytes) ≡ true → is_spaced false bytes ≡ true → is_spaced after (b ∷ bytes) ≡ true
solid_step after b bytes h g =
    let parts = and_parts (is_solid b) (list_all is_solid bytes) h in
    let both = solid_parts b parts.0 in
    rw (both.1, both.0) g

solid_spaced : (bytes : List ℕ) → list_all is_solid bytes ≡ true → is_spaced false bytes ≡ true
solid_spaced [] h = refl
solid_spaced (b ∷ bytes) h = solid_step false b bytes h (solid_spaced bytes (and_parts (is_solid b) (list_all is_solid bytes) h).1)

some_spaced : (bytes : List ℕ) → is_some_text bytes ≡ true → list_all is_solid bytes ≡ true → is_spaced true bytes ≡ true
some_spaced [] some h = cc
some_spaced (b ∷ bytes) some h = solid_step true b bytes h (solid_spaced bytes (and_parts (is_solid b) (list_all is_solid bytes) h).1)

-- a text that a heading has
pub record IsTitle (written : List ℕ) (shown : List Glyph) : Type 0 where
  pub inside : list_all is_in_line written ≡ true
  pub reads : heading_glyphs written ≡ Some shown

is_title : (written : List ℕ) (shown : List Glyph) → is_spaced true written ≡ true → glyphs false written ≡ Some shown → list_all is_inner written ≡ true → IsTitle written shown
is_title written shown spaced reads inner = record {
  inside = weaker is_inner is_in_line (λ b h. (and_parts (not (b == 10)) (not (b == 34)) h).0) written inner;
  reads = ap (λ (x : Bool). if x then glyphs false written else None) spaced ∙ reads;
}

title_if : (spaced : Bool) (b : ℕ) (text : List ℕ) → list_all is_permitted_byte (b ∷ text) ≡ true → is_spaced_text true (b ∷ text) ≡ spaced
    → IsTitle (if spaced then escaped Text (b ∷ text) else escaped Item (b ∷ text)) (in_font Roman (b ∷ text))
title_if true b text h e =
    is_title (escaped Text (b ∷ text)) (in_font Roman (b ∷ text)) (spaced_text true (b ∷ text) ∙ e) (word_shown Text (b ∷ text) h) (inner_word Text (b ∷ text) h)
title_if false b text h e =
    is_title (escaped Item (b ∷ text)) (in_font Roman (b ∷ text))
    (some_spaced (escaped Item (b ∷ text)) (some_escaped Item b text) (all_written is_permitted_byte is_solid Item writes_item (b ∷ text) h))
    (word_shown Item (b ∷ text) h) (inner_word Item (b ∷ text) h)

pub title_is : (text : List ℕ) → list_all is_permitted_byte text ≡ true → IsTitle (title_text text) (in_font Roman text)
title_is [] h = is_title (codes "\\&") [] refl refl refl
title_is (b ∷ text) h = title_if (is_spaced_text true (b ∷ text)) b text h refl
