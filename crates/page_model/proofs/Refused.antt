-- What is seen of texts, and the first of them that is refused.
use Rattle.std.proofs.Common.{rules, Vec, append-nil, ◌≡◌, ◌+◌, ◌<◌, false, ◌++◌, suc, length, take, drop, true, not, Bool, ℕ, List, [], ◌∷◌, Option, Some, None, map, flat_map, sym, ap, ◌∙◌, refl}
use Rattle.std.proofs.Math.ListN.{get_or}
use Rattle.std.proofs.Math.Seq.{split_at}
use Rattle.std.proofs.lemmas.Grind.{flat_map-append}
use Rattle.std.proofs.lemmas.List.Folds.{find-append, flat_map-map}
use Rattle.std.proofs.lemmas.List.{take_more}
use Rattle.std.proofs.lemmas.Bool.{false≢true}
use Rattle.std.specs.Borrow.{Bor}
use Rattle.std.specs.Option.{is_none, is_some, option_or}
use Rattle.page_model.specs.Content.{ChapterSaid, chapter}
use Rattle.page_model.specs.declared.parts.Chapter.{Chapter, Chapter-F, out-Chapter, the_lemmas}
use Rattle.page_model.specs.Permitted.{are_permitted, chapter_texts, chapters_texts, refused_in}
use Rattle.page_model.specs.View.{block_of, chapter_of, chapters_in, part_of, text_of}

-- an answer is kept where there is one
kept : (found : Option (Bor (List ℕ))) (others : Option (List ℕ)) → is_some found ≡ true → option_or (text_of found) others ≡ text_of found
kept (Some one) others some = refl
kept None others some = absurd (false≢true some)

lost : (found : Option (Bor (List ℕ))) → is_some found ≡ false → text_of found ≡ None
lost None none = refl
lost (Some one) none = absurd (false≢true (sym none))

pub refused_append : (xs ys : List (List ℕ)) → refused_in (xs ++ ys) ≡ option_or (refused_in xs) (refused_in ys)
refused_append xs ys = find-append (λ text. not (are_permitted text)) xs ys

-- what is found after what is permitted is the first
first_found : {X : Type 0} (f : X → List (List ℕ)) (xs : List X) (i : ℕ) (d : X) (found : Option (Bor (List ℕ))) → i < length xs → refused_in (flat_map f (take i xs)) ≡ None → text_of found ≡ refused_in (f (get_or xs i d)) → is_some found ≡ true → text_of found ≡ refused_in (flat_map f xs)
first_found f xs i d found inside none is some =
    let others : List (List ℕ) = flat_map f (drop (suc i) xs) in
    sym (ap (λ list. refused_in (flat_map f list)) (split_at xs i d inside)
    ∙ ap refused_in (flat_map-append f (take i xs) (get_or xs i d ∷ drop (suc i) xs))
    ∙ refused_append (flat_map f (take i xs)) (f (get_or xs i d) ++ others)
    ∙ ap (λ before. option_or before (refused_in (f (get_or xs i d) ++ others))) none
    ∙ refused_append (f (get_or xs i d)) others
    ∙ ap (λ here. option_or here (refused_in others)) (sym is)
    ∙ kept found (refused_in others) some)

-- and where nothing is found, one more is permitted
permitted_more : {X : Type 0} (f : X → List (List ℕ)) (xs : List X) (i : ℕ) (d : X) (found : Option (Bor (List ℕ))) → i < length xs → refused_in (flat_map f (take i xs)) ≡ None → text_of found ≡ refused_in (f (get_or xs i d)) → is_some found ≡ false → refused_in (flat_map f (take (i + 1) xs)) ≡ None
permitted_more f xs i d found inside none is some =
    ap (λ list. refused_in (flat_map f list)) (take_more xs i d inside)
    ∙ ap refused_in (flat_map-append f (take i xs) (get_or xs i d ∷ []))
    ∙ refused_append (flat_map f (take i xs)) (f (get_or xs i d) ++ [])
    ∙ ap (λ before. option_or before (refused_in (f (get_or xs i d) ++ []))) none
    ∙ ap refused_in (append-nil (f (get_or xs i d)))
    ∙ sym is
    ∙ lost found some

-- the same of what is seen of each element
pub first_seen : {X Y : Type 0} (texts : Y → List (List ℕ)) (see : X → Y) (xs : List X) (i : ℕ) (d : X) (found : Option (Bor (List ℕ))) → i < length xs → refused_in (flat_map texts (map see (take i xs))) ≡ None → text_of found ≡ refused_in (texts (see (get_or xs i d))) → is_some found ≡ true → text_of found ≡ refused_in (flat_map texts (map see xs))
first_seen texts see xs i d found inside none is some =
    first_found (λ x. texts (see x)) xs i d found inside (ap refused_in (sym (flat_map-map texts see (take i xs))) ∙ none) is some
    ∙ ap refused_in (sym (flat_map-map texts see xs))

pub more_seen : {X Y : Type 0} (texts : Y → List (List ℕ)) (see : X → Y) (xs : List X) (i : ℕ) (d : X) (found : Option (Bor (List ℕ))) → i < length xs → refused_in (flat_map texts (map see (take i xs))) ≡ None → text_of found ≡ refused_in (texts (see (get_or xs i d))) → is_some found ≡ false → refused_in (flat_map texts (map see (take (i + 1) xs))) ≡ None
more_seen texts see xs i d found inside none is some =
    ap refused_in (flat_map-map texts see (take (i + 1) xs))
    ∙ permitted_more (λ x. texts (see x)) xs i d found inside (ap refused_in (sym (flat_map-map texts see (take i xs))) ∙ none) is some

-- lines of code are texts themselves
pub texts_seen : (texts : List (Bor (List ℕ))) → flat_map (λ text. text ∷ []) (map (λ text. text.now) texts) ≡ map (λ text. text.now) texts
texts_seen [] = refl
texts_seen (text ∷ texts) = ap (λ others. text.now ∷ others) (texts_seen texts)

abbrev pub items_of : {X A : Type 0} → Vec X A → List X
items_of list = list.items

pub none_seen : (found : Option (Bor (List ℕ))) (answer : Bool) → is_some found ≡ not answer → answer ≡ is_none (text_of found)
none_seen None true is = refl
none_seen None false is = absurd (false≢true is)
none_seen (Some one) true is = absurd (false≢true (sym is))
none_seen (Some one) false is = refl

-- a level in terms of what is inside
abbrev pub chapter_layer : {A : Type 0} → Chapter-F A (Chapter A) → ChapterSaid
chapter_layer level = chapter level.title.now level.name.now (map block_of level.about.items) (map part_of level.parts.items) (chapters_in (map chapter_of level.below.items))

pub open-Chapter : {A : Type 0} (c : Chapter A) → chapter_of c ≡ chapter_layer (out-Chapter A c)
open-Chapter c = search (rules, the_lemmas)

pub chapters_seen : (list : List ChapterSaid) → flat_map chapter_texts list ≡ chapters_texts (chapters_in list)
chapters_seen [] = refl
chapters_seen (one ∷ others) = ap (λ texts. chapter_texts one ++ texts) (chapters_seen others)

-- what is found first in two lists of texts
pub both_found : (first second whole : Option (Bor (List ℕ))) (xs ys : List (List ℕ)) → text_of whole ≡ option_or (text_of first) (text_of second) → text_of first ≡ refused_in xs → text_of second ≡ refused_in ys → text_of whole ≡ refused_in (xs ++ ys)
both_found first second whole xs ys is here after =
    is ∙ ap (λ found. option_or found (text_of second)) here ∙ ap (option_or (refused_in xs)) after ∙ sym (refused_append xs ys)
