-- The sections of a draft: they are the draft, and each line is in one of them.
use Rattle.std.proofs.Common.{◌≡◌, ℕ, ◌+◌, Bool, true, false, cond, List, [], ◌∷◌, ◌++◌, append_assoc, codes, count_by, filter, flat_map, refl, subst, sym, ap, ◌∙◌, arith, true≢false}
use Rattle.std.proofs.lemmas.List.Elements.{filter-append}
use Rattle.std.proofs.lemmas.List.Sums.{sum_by-append}
use Rattle.toml_pieces.specs.Toml.{text_at, word_at}
use Rattle.drafts.specs.Drafts.{after_role, below_title, draft_of, gathered, is_in, last_tables, placed_text, tables, taken_from}
use Rattle.drafts.specs.Free.{Has, none_taken}
use Rattle.drafts.specs.Laws.{is_inked, title_after}
use Rattle.drafts.specs.Passages.{PassageSaid}
use Rattle.drafts.specs.Places.{PlacedSaid, is_title, is_usage_role}
use Rattle.drafts.specs.Sections.{Section}
use Rattle.drafts.specs.Usages.{forms, usage_pieces}
use Rattle.drafts.specs.declared.drafted.Text.{Text}
use Rattle.drafts.specs.declared.drafted.Text.TheVariants as text
use Rattle.drafts.specs.declared.places.Role.{Role}
use Rattle.drafts.specs.declared.places.Role.TheVariants as role
use Rattle.drafts.proofs.Roles.{AllFit}

abbrev pub section : (lines : List (List ℕ)) → (text : List ℕ) → Section
section lines text = record { lines = lines; text = text }

-- the lines of the passages that a text has
abbrev pub lines_for : Text → List PlacedSaid → List (List ℕ)
lines_for t [] = []
lines_for t (p ∷ ps) = cond (is_in t p.role) p.passage.lines [] ++ lines_for t ps

abbrev pub usage_lines : List PlacedSaid → List (List ℕ)
usage_lines [] = []
usage_lines (p ∷ ps) = cond (is_usage_role p.role) p.passage.lines [] ++ usage_lines ps

abbrev pub topic_lines : List PlacedSaid → List (List ℕ)
topic_lines ps = lines_for text.Topic (below_title ps)

-- the lines of a table or of comments
abbrev pub own_lines : Role → PassageSaid → (below : List PlacedSaid) → List (List ℕ)
own_lines role.Topic p below = p.lines ++ topic_lines below
own_lines role.Group p below = p.lines
own_lines role.Usual p below = p.lines
own_lines role.Entry p below = p.lines
own_lines role.Member p below = p.lines
own_lines role.LeftOut p below = p.lines
own_lines _ p below = []

abbrev pub table_sections : Has → List PlacedSaid → List Section
table_sections has [] = []
table_sections has (p ∷ ps) = section (own_lines p.role p.passage ps) (placed_text has p.role p.passage ps) ∷ table_sections (after_role has p.role p.passage) ps

abbrev pub text_sections : List PlacedSaid → List Section
text_sections ps =
    section (lines_for text.About ps) (text_at (codes "about") (gathered text.About ps)) ∷ section (usage_lines ps) (text_at (codes "usage") (usage_pieces (forms ps)))
    ∷ section (lines_for text.Header ps) (text_at (codes "header") (gathered text.Header ps)) ∷ section (lines_for text.Footer ps) (text_at (codes "footer") (gathered text.Footer ps)) ∷ []

abbrev pub sections : List PlacedSaid → List Section
sections ps = text_sections ps ++ table_sections none_taken ps

-- ---- they are the draft

abbrev pub lines_in : List Section → List (List ℕ)
lines_in = flat_map (λ s. s.lines)

abbrev pub text_of : List Section → List ℕ
text_of = flat_map (λ s. s.text)

all_tables : (has : Has) (ps : List PlacedSaid) → text_of (table_sections has ps) ≡ tables has ps
all_tables has [] = refl
all_tables has (p ∷ ps) = ap (λ t. placed_text has p.role p.passage ps ++ t) (all_tables (after_role has p.role p.passage) ps)

five_parts : (a b c d rest last : List ℕ) → (a ++ (b ++ (c ++ d))) ++ (rest ++ last) ≡ (a ++ (b ++ (c ++ (d ++ rest)))) ++ last
five_parts a b c d rest last =
    sym (append_assoc (a ++ (b ++ (c ++ d))) rest last)
    ∙ ap (λ t. t ++ last) (append_assoc a (b ++ (c ++ d)) rest ∙ ap (λ t. a ++ t) (append_assoc b (c ++ d) rest ∙ ap (λ t. b ++ t) (append_assoc c d rest)))

pub sections_are_draft : (ps : List PlacedSaid) (name : List ℕ) → draft_of ps name ≡ word_at (codes "name") name ++ (text_of (sections ps) ++ last_tables (taken_from none_taken ps) ps)
sections_are_draft ps name =
    let about = text_at (codes "about") (gathered text.About ps) in
    let usage = text_at (codes "usage") (usage_pieces (forms ps)) in
    let header = text_at (codes "header") (gathered text.Header ps) in
    let footer = text_at (codes "footer") (gathered text.Footer ps) in
    let last = last_tables (taken_from none_taken ps) ps in
    ap (λ t. word_at (codes "name") name ++ t)
    (five_parts about usage header footer (tables none_taken ps) last ∙ ap (λ t. (about ++ (usage ++ (header ++ (footer ++ t)))) ++ last) (sym (all_tables none_taken ps)))

-- ---- each line is in one of them

pub no_topic : (t : Role) (ps : List PlacedSaid) → (t ≡ role.Topic → ⊥) → AllFit t ps → topic_lines ps ≡ []
no_topic t [] none fit = refl
no_topic t (p ∷ ps) none fit = by (is_title p.passage.kind) refl (no_topic t ps none) where
  below : (r : Role) → p.role ≡ r → cond (is_in text.Topic r) p.passage.lines [] ≡ []
  below role.InTopic e = absurd (none (fit.0.in_topic e).0)
  below role.Nothing e = refl
  below role.Usage e = refl
  below role.About e = refl
  below role.Header e = refl
  below role.Footer e = refl
  below role.Topic e = refl
  below role.Group e = refl
  below role.Usual e = refl
  below role.Entry e = refl
  below role.Member e = refl
  below role.LeftOut e = refl

  by : (b : Bool) → is_title p.passage.kind ≡ b → (AllFit t ps → topic_lines ps ≡ []) → lines_for text.Topic (cond b [] (p ∷ below_title ps)) ≡ []
  by true e more = refl
  by false e more = ap (λ ls. ls ++ topic_lines ps) (below p.role refl) ∙ more (subst (λ u. AllFit u ps) (ap (λ b. cond b p.role t) e) fit.1)

module _ (test : List ℕ → Bool) where
  abbrev pub N : List (List ℕ) → ℕ
  N ls = count_by test (filter is_inked ls)

  pub both : (xs ys : List (List ℕ)) → N (xs ++ ys) ≡ N xs + N ys
  both xs ys = ap (count_by test) (filter-append is_inked xs ys) ∙ sum_by-append (λ l. cond (test l) 1 0) (filter is_inked xs) (filter is_inked ys)

  -- in all sections of some passages, and in a topic with its title before them
  abbrev pub total : Has → List PlacedSaid → ℕ
  total has ps = N (lines_for text.About ps) + (N (usage_lines ps) + (N (lines_for text.Header ps) + (N (lines_for text.Footer ps) + (N (lines_in (table_sections has ps)) + N (topic_lines ps)))))

  module _ (p : PassageSaid) (ps : List PlacedSaid) (tables topic : List (List ℕ)) where
    abbrev total_with : Role → ℕ
    total_with r =
        N (cond (is_in text.About r) p.lines [] ++ lines_for text.About ps) + (N (cond (is_usage_role r) p.lines [] ++ usage_lines ps) + (N (cond (is_in text.Header r) p.lines [] ++ lines_for text.Header ps)
        + (N (cond (is_in text.Footer r) p.lines [] ++ lines_for text.Footer ps) + (N (own_lines r p ps ++ tables) + N topic))))

    -- what is in the topic with its title above
    abbrev Above : Role → Type 0
    Above role.InTopic = topic ≡ p.lines ++ topic_lines ps
    Above role.Topic = topic ≡ []
    Above role.Nothing = (p.lines ≡ []) × (topic ≡ topic_lines ps)
    Above _ = topic ≡ topic_lines ps

    one_more : (all : List (List ℕ)) (r : Role) → N all ≡ N (lines_for text.About ps) + (N (usage_lines ps) + (N (lines_for text.Header ps) + (N (lines_for text.Footer ps) + (N tables + N (topic_lines ps)))))
        → Above r → N (p.lines ++ all) ≡ total_with r
    one_more all role.Nothing h e = let none = ap N e.0 in let same = ap N e.1 in omega (arith, both p.lines all, none, same, h)
    one_more all role.Usage h e = let same = ap N e in omega (arith, both p.lines all, both p.lines (usage_lines ps), same, h)
    one_more all role.About h e = let same = ap N e in omega (arith, both p.lines all, both p.lines (lines_for text.About ps), same, h)
    one_more all role.Header h e = let same = ap N e in omega (arith, both p.lines all, both p.lines (lines_for text.Header ps), same, h)
    one_more all role.Footer h e = let same = ap N e in omega (arith, both p.lines all, both p.lines (lines_for text.Footer ps), same, h)
    one_more all role.Topic h e =
        let same = ap N e in omega (arith, both p.lines all, both (p.lines ++ topic_lines ps) tables, both p.lines (topic_lines ps), same, h)
    one_more all role.InTopic h e = let same = ap N e in omega (arith, both p.lines all, both p.lines (topic_lines ps), same, h)
    one_more all role.Group h e = let same = ap N e in omega (arith, both p.lines all, both p.lines tables, same, h)
    one_more all role.Usual h e = let same = ap N e in omega (arith, both p.lines all, both p.lines tables, same, h)
    one_more all role.Entry h e = let same = ap N e in omega (arith, both p.lines all, both p.lines tables, same, h)
    one_more all role.Member h e = let same = ap N e in omega (arith, both p.lines all, both p.lines tables, same, h)
    one_more all role.LeftOut h e = let same = ap N e in omega (arith, both p.lines all, both p.lines tables, same, h)

  pub counted : (t : Role) (has : Has) (ps : List PlacedSaid) → AllFit t ps → N (flat_map (λ p. p.passage.lines) ps) ≡ total has ps
  counted t has [] fit = refl
  counted t has (p ∷ ps) fit =
      let after = after_role has p.role p.passage in
      let topic = lines_for text.Topic (cond (is_title p.passage.kind) [] (p ∷ below_title ps)) in
      one_more p.passage ps (lines_in (table_sections after ps)) topic (flat_map (λ q. q.passage.lines) ps) p.role (counted (title_after t p) after ps fit.1)
      (above (lines_in (table_sections after ps)) (is_title p.passage.kind) refl p.role refl) where
        same : (b : Bool) (r : Role) → is_title p.passage.kind ≡ b → p.role ≡ r → is_in text.Topic r ≡ false → (r ≡ role.Topic → ⊥)
            → lines_for text.Topic (cond b [] (p ∷ below_title ps)) ≡ topic_lines ps
        same true r h e out none =
            sym (no_topic r ps none (subst (λ u. AllFit u ps) (ap (λ b. cond b p.role t) h ∙ e) fit.1))
        same false r h e out none = ap (λ i. cond i p.passage.lines [] ++ topic_lines ps) (ap (is_in text.Topic) e ∙ out)

        above : (tables : List (List ℕ)) (b : Bool) → is_title p.passage.kind ≡ b → (r : Role) → p.role ≡ r → Above p.passage ps tables (lines_for text.Topic (cond b [] (p ∷ below_title ps))) r
        above tables b h role.Nothing e = (fit.0.nothing e, same b role.Nothing h e refl (λ n. cc))
        above tables b h role.Usage e = same b role.Usage h e refl (λ n. cc)
        above tables b h role.About e = same b role.About h e refl (λ n. cc)
        above tables b h role.Header e = same b role.Header h e refl (λ n. cc)
        above tables b h role.Footer e = same b role.Footer h e refl (λ n. cc)
        above tables true h role.Topic e = refl
        above tables false h role.Topic e = absurd (true≢false (sym (fit.0.topic e).0 ∙ h))
        above tables true h role.InTopic e = absurd (true≢false (sym h ∙ (fit.0.in_topic e).1))
        above tables false h role.InTopic e = ap (λ i. cond i p.passage.lines [] ++ topic_lines ps) (ap (is_in text.Topic) e)
        above tables b h role.Group e = same b role.Group h e refl (λ n. cc)
        above tables b h role.Usual e = same b role.Usual h e refl (λ n. cc)
        above tables b h role.Entry e = same b role.Entry h e refl (λ n. cc)
        above tables b h role.Member e = same b role.Member h e refl (λ n. cc)
        above tables b h role.LeftOut e = same b role.LeftOut h e refl (λ n. cc)
