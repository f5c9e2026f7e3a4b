-- What a markdown text keeps in mind is what looking back at the fragments before says.
use Rattle.std.specs.Prelude.{if◌then◌else◌, ◌++◌, ◌+◌, ◌<◌, ◌^◌, ◌∷◌, ◌≡◌}
use Rattle.bpaf_doc.proofs.lemmas.Markdown.Words.{ℕ, Bool, true, false, cond, List, [], map, refl, sym, ap, ◌∙◌, subst, arith, append_assoc, append-nil, length-append, nat_lt, filter, count_by, common_steps, list_any, after_last, suffix_len, prefix_len, reverse-append, drop-append-le, drop_all, map-append, list_any-append, filter-append, Fragment, Mark, MarkdownSnippet, is_mono_start, is_mono_end, is_header_start, is_item_start, first_is, is_in_list, is_after_empty_item, headings_of, headed_snippets, flat_map_places_from, is_heading, Put, Of, is_mark_or_fragment, Marked, with_item, is_term_end, marked_after, marked_after_all, one_more}
use Rattle.bpaf_doc.proofs.lemmas.Lists.Counting.{one_if, count_by-cons, count_by-append}
use Rattle.bpaf_doc.proofs.lemmas.Markdown.Cut.{Flags, flags, flags_next, item-flags, step-flags, SameMono, spelled, spelled-append, step-spelled, cut_from, snippets_of, item-spelled}
use Rattle.bpaf_doc.proofs.lemmas.Markdown.Kept.{own_heading, item_heading, step-fragments}
use Rattle.std.proofs.Math.Nat.{zero-add}

suffix-push : (q : Fragment → Bool) (fs : List Fragment) (f : Fragment) → suffix_len q (fs ++ f ∷ []) ≡ cond (q f) (1 + suffix_len q fs) 0
suffix-push q fs f = ap (λ xs. prefix_len q xs) (reverse-append fs (f ∷ []))

-- ---- items

-- no item came; one was begun last; or one was begun and these came after it
pub data Item : List Fragment → Bool → Bool → Type 0 where
  none : {before : List Fragment} {pending empty : Bool} → list_any is_item_start before ≡ false → pending ≡ false → empty ≡ false → Item before pending empty
  waiting : {before : List Fragment} {pending empty : Bool} → list_any is_item_start before ≡ true → after_last is_item_start before ≡ [] → pending ≡ true → Item before pending empty
  past : {before : List Fragment} {pending empty : Bool} (g : Fragment) (rest : List Fragment) → list_any is_item_start before ≡ true → after_last is_item_start before ≡ g ∷ rest → pending ≡ false → empty ≡ is_term_end g → Item before pending empty

pub after_empty_is : {before : List Fragment} {pending empty : Bool} → Item before pending empty → is_after_empty_item before ≡ (if pending then false else empty)
after_empty_is h = grind (arith)

item_next : {before : List Fragment} {pending empty : Bool} (f : Fragment) → Item before pending empty
    → Item (before ++ f ∷ []) (if is_item_start f then true else false) (if is_item_start f then false else (if pending then is_term_end f else empty))
item_next {before} {pending} {empty} f item =
    (elim (is_item_start f) as (λ b. is_item_start f ≡ b → Item (before ++ f ∷ []) (if b then true else false) (if b then false else (if pending then is_term_end f else empty))) [
      | true ↦ λ e. waiting ((list_any-append is_item_start before (f ∷ []) ∙ grind arith) ∙ ap (λ b. if b then true else list_any is_item_start before) e) (grind (arith, suffix-push, drop_all)) refl
      | false ↦ λ e. stays e item
    ]) refl
  where
    any_same : is_item_start f ≡ false → list_any is_item_start (before ++ f ∷ []) ≡ list_any is_item_start before
    any_same e = list_any-append is_item_start before (f ∷ []) ∙ grind arith ∙ ap (λ b. if b then true else list_any is_item_start before) e

    stays : is_item_start f ≡ false → Item before pending empty → Item (before ++ f ∷ []) false (if pending then is_term_end f else empty)
    stays e (none any p h) = none (any_same e ∙ any) refl (ap (λ b. if b then is_term_end f else empty) p ∙ h)
    stays e (waiting any last p) =
        past f [] (any_same e ∙ any) ((grind (arith, suffix-push, length-append, drop-append-le)) ∙ ap (λ x. x ++ f ∷ []) last) refl (ap (λ b. if b then is_term_end f else empty) p)
    stays e (past g rest any last p h) =
        past g (rest ++ f ∷ []) (any_same e ∙ any) ((grind (arith, suffix-push, length-append, drop-append-le)) ∙ ap (λ x. x ++ f ∷ []) last) refl (ap (λ b. if b then is_term_end f else empty) p ∙ h)

-- ---- all of it

pub record Agrees (before : List Fragment) (s : Flags) : Type 0 where
  pub headed : list_any is_header_start before ≡ s.headed
  pub in_list : is_in_list before ≡ s.in_list
  pub item : Item before s.pending s.empty_item
  pub starts : count_by is_mono_start before ≡ s.starts
  pub ends : count_by is_mono_end before ≡ s.ends

-- there are fewer Mono marks than a count can hold
abbrev pub Room : List Fragment → List Fragment → Type 0
Room before rest = (count_by is_mono_start before + count_by is_mono_start rest < 2 ^ 64) × (count_by is_mono_end before + count_by is_mono_end rest < 2 ^ 64)

counted : (p : Fragment → Bool) (before : List Fragment) (f : Fragment) (n : ℕ) → count_by p before ≡ n → count_by p before + one_if (p f) < 2 ^ 64 → count_by p (before ++ f ∷ []) ≡ (if p f then one_more n else n)
counted p before f n e room = grind (arith, count_by-append, count_by, zero-add, one_if)

room_next : (p : Fragment → Bool) (before : List Fragment) (f : Fragment) (fs : List Fragment) → count_by p before + count_by p (f ∷ fs) < 2 ^ 64 → count_by p (before ++ f ∷ []) + count_by p fs < 2 ^ 64
room_next p before f fs room = omega (arith, room, count_by-cons p f fs, count_by-append, count_by, zero-add, one_if)

pub rooms_next : (before : List Fragment) (f : Fragment) (fs : List Fragment) → Room before (f ∷ fs) → Room (before ++ f ∷ []) fs
rooms_next before f fs room = (room_next is_mono_start before f fs room.0, room_next is_mono_end before f fs room.1)

pub agrees_after : (before : List Fragment) (p : Marked) (f : Fragment) (fs : List Fragment) → Agrees before (flags p) → Room before (f ∷ fs) → Agrees (before ++ f ∷ []) (flags (marked_after p f))
agrees_after before p f fs h room =
    subst (λ s. Agrees (before ++ f ∷ []) s) (sym (step-flags p f)) (grind (arith, common_steps, list_any-append, reverse-append, item_next, counted, count_by-cons))

pub same_mono : (before : List Fragment) (p : Marked) → Agrees before (flags p) → SameMono before p
same_mono before p h = ap (λ n. nat_lt n (count_by is_mono_start before)) h.ends ∙ ap (λ n. nat_lt p.ends n) h.starts

-- the text after all, with the dash of a last item
pub all-spelled : (before : List Fragment) (p : Marked) (fs : List Fragment) → Agrees before (flags p) → Room before fs → (with_item (marked_after_all p fs) false).bytes ≡ p.bytes ++ spelled before (cut_from p fs)
all-spelled before p [] h room = item-spelled before p false
all-spelled before p (f ∷ fs) h room =
    all-spelled (before ++ f ∷ []) (marked_after p f) fs (agrees_after before p f fs h room) (rooms_next before f fs room)
    ∙ ap (λ x. x ++ spelled (before ++ f ∷ []) (cut_from (marked_after p f) fs)) (step-spelled before p f (same_mono before p h))
    ∙ append_assoc p.bytes (spelled before (snippets_of p f)) (spelled (before ++ f ∷ []) (cut_from (marked_after p f) fs))
    ∙ ap (λ x. p.bytes ++ (spelled before (snippets_of p f) ++ spelled (before ++ x) (cut_from (marked_after p f) fs))) (sym (step-fragments p f))
    ∙ ap (λ x. p.bytes ++ x) (sym (spelled-append before (snippets_of p f) (cut_from (marked_after p f) fs)))

-- ---- headings

heading_is : (before : List Fragment) (p : Marked) (f : Fragment) (fs : List Fragment) → Agrees before (flags p)
    → own_heading (with_item p (is_term_end f)) f ++ item_heading (flags_next (flags p) f).pending (first_is is_term_end fs) ≡ headings_of before f fs
heading_is before p f fs h = grind (arith, item-flags, append-nil, after_empty_is)

pub all-headings : (before : List Fragment) (p : Marked) (fs : List Fragment) → Agrees before (flags p) → Room before fs
    → filter (is_mark_or_fragment is_heading) (cut_from p fs) ≡ map Put (item_heading p.pending (first_is is_term_end fs)) ++ flat_map_places_from headed_snippets before fs
all-headings before p [] h room = grind arith ∙ sym (append-nil (map Put (item_heading p.pending false)))
all-headings before p (f ∷ fs) h room =
    let next : Marked = marked_after p f in
    let first : List MarkdownSnippet = map Put (item_heading p.pending (is_term_end f)) in
    let own : List Mark = own_heading (with_item p (is_term_end f)) f in
    let later : List MarkdownSnippet = flat_map_places_from headed_snippets (before ++ f ∷ []) fs in
    filter-append (is_mark_or_fragment is_heading) (snippets_of p f) (cut_from next fs)
    ∙ ap (λ x. x ++ filter (is_mark_or_fragment is_heading) (cut_from next fs)) (grind (arith, filter-append))
    ∙ ap (λ x. (first ++ Of f ∷ map Put own) ++ x) (all-headings (before ++ f ∷ []) next fs (agrees_after before p f fs h room) (rooms_next before f fs room))
    ∙ ap (λ s. (first ++ Of f ∷ map Put own) ++ (map Put (item_heading s.pending (first_is is_term_end fs)) ++ later)) (step-flags p f)
    ∙ append_assoc first (Of f ∷ map Put own) (map Put (item_heading (flags_next (flags p) f).pending (first_is is_term_end fs)) ++ later)
    ∙ ap (λ x. first ++ Of f ∷ x) (sym (append_assoc (map Put own) (map Put (item_heading (flags_next (flags p) f).pending (first_is is_term_end fs))) later))
    ∙ ap (λ x. first ++ Of f ∷ (x ++ later)) (sym (map-append Put own (item_heading (flags_next (flags p) f).pending (first_is is_term_end fs))) ∙ ap (λ x. map Put x) (heading_is before p f fs h))
    ∙ ap (λ x. map Put (item_heading p.pending x) ++ (headed_snippets before f fs ++ later)) (sym (grind arith))
