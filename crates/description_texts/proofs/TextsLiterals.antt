-- The literals of a line.
use Rattle.std.proofs.Common.{◌≡◌, ℕ, ◌+◌, ◌<◌, ◌≤◌, Bool, true, false, List, [], ◌∷◌, ◌++◌, length, take, drop, get_or, arith, refl, ap, sym, ◌∙◌, inl, inr}
use Rattle.std.specs.Prelude.{if◌then◌else◌, not, ◌&&◌}
use Rattle.std.specs.List.{onto_first}
use Rattle.std.proofs.lemmas.Bool.{and_parts, false≢true}
use Rattle.std.proofs.lemmas.Bool.Decides.{eqb_tells}
use Rattle.std.proofs.lemmas.List.{drop_all, drop_more, length-append, take-append-drop, take_all, take_more}
use Rattle.description_texts.specs.TextsInside.{begins_quote, by_turns, is_lone, is_quote, links, lone_parts, lone_split, quoted}
use Rattle.description_texts.specs.TextsView.{IsLoneCut}

-- some bytes before those of the first part
abbrev pub onto_front : List ℕ → List (List ℕ) → List (List ℕ)
onto_front [] parts = parts
onto_front (b ∷ text) parts = onto_first b (onto_front text parts)

onto_push : (text : List ℕ) (b : ℕ) (parts : List (List ℕ)) → onto_front (text ++ b ∷ []) parts ≡ onto_front text (onto_first b parts)
onto_push [] b parts = refl
onto_push (x ∷ text) b parts = ap (onto_first x) (onto_push text b parts)

onto_new : (text : List ℕ) (parts : List (List ℕ)) → onto_front text ([] ∷ parts) ≡ text ∷ parts
onto_new [] parts = refl
onto_new (x ∷ text) parts = ap (onto_first x) (onto_new text parts)

-- a text that does not begin with a backquote is split the same after one
fresh : (text : List ℕ) → begins_quote text ≡ false → lone_split true text ≡ lone_parts text
fresh [] h = refl
fresh (b ∷ text) h =
    let parts : List (List ℕ) = lone_split (is_quote b) text in
    ap (λ (q : Bool). if q && false && not (begins_quote text) then [] ∷ parts else onto_first b parts) h
    ∙ sym (ap (λ (q : Bool). if q && true && not (begins_quote text) then [] ∷ parts else onto_first b parts) h)

-- what was passed before a place
abbrev pub SplitSoFar : List ℕ → ℕ → Bool → Type 0
SplitSoFar text at after_quote = lone_parts text ≡ onto_front (take at text) (lone_split after_quote (drop at text))

quote_is : (b : ℕ) → is_quote b ≡ true → b ≡ 96
quote_is b h = elim (eqb_tells b 96) [ inl p ↦ p.1 | inr p ↦ absurd (false≢true (sym p.0 ∙ h)) ]

not_so : (a : Bool) → not a ≡ true → a ≡ false
not_so true h = absurd cc
not_so false h = refl

record IsLone (after_quote : Bool) (b : ℕ) (text : List ℕ) : Type 0 where
  quote : is_quote b ≡ true
  apart : begins_quote text ≡ false

lone_facts : (after_quote : Bool) (b : ℕ) (text : List ℕ) → is_lone after_quote b text ≡ true → IsLone after_quote b text
lone_facts after_quote b text h =
    let both = and_parts (is_quote b && not after_quote) (not (begins_quote text)) h in
    record { quote = (and_parts (is_quote b) (not after_quote) both.0).0; apart = not_so (begins_quote text) both.1 }

module _ (text : List ℕ) (at : ℕ) (after_quote : Bool) (within : at < length text) (so_far : SplitSoFar text at after_quote) where
  split_next : lone_parts text ≡ onto_front (take at text) (lone_split after_quote (get_or text at 0 ∷ drop (at + 1) text))
  split_next = so_far ∙ ap (λ us. onto_front (take at text) (lone_split after_quote us)) (drop_more text at 0 within)

  -- a backquote with no other beside it
  pub cut_here : is_lone after_quote (get_or text at 0) (drop (at + 1) text) ≡ true → IsLoneCut text (take at text) (drop (at + 1) text)
  cut_here lone =
      let b = get_or text at 0 in
      let after = drop (at + 1) text in
      let facts = lone_facts after_quote b after lone in
      record {
        parts =
            split_next
            ∙ ap (λ (l : Bool). onto_front (take at text) (if l then [] ∷ lone_split (is_quote b) after else onto_first b (lone_split (is_quote b) after))) lone
            ∙ onto_new (take at text) (lone_split (is_quote b) after)
            ∙ ap (λ q. take at text ∷ lone_split q after) facts.quote
            ∙ ap (λ parts. take at text ∷ parts) (fresh after facts.apart);
        apart = facts.apart;
        whole = sym (take-append-drop at text) ∙ ap (λ us. take at text ++ us) (drop_more text at 0 within ∙ ap (λ c. c ∷ after) (quote_is b facts.quote));
      }

  pub cut_byte : is_lone after_quote (get_or text at 0) (drop (at + 1) text) ≡ true → get_or text at 0 ≡ 96
  cut_byte lone = quote_is (get_or text at 0) (lone_facts after_quote (get_or text at 0) (drop (at + 1) text) lone).quote

  -- any other byte
  pub passed : is_lone after_quote (get_or text at 0) (drop (at + 1) text) ≡ false → SplitSoFar text (at + 1) (is_quote (get_or text at 0))
  passed none =
      let b = get_or text at 0 in
      let after = drop (at + 1) text in
      split_next
      ∙ ap (λ (l : Bool). onto_front (take at text) (if l then [] ∷ lone_split (is_quote b) after else onto_first b (lone_split (is_quote b) after))) none
      ∙ sym (onto_push (take at text) b (lone_split (is_quote b) after))
      ∙ ap (λ us. onto_front us (lone_split (is_quote b) after)) (sym (take_more text at 0 within))

pub none_left : (text : List ℕ) (at : ℕ) (after : Bool) → length text ≤ at → SplitSoFar text at after → lone_parts text ≡ text ∷ []
none_left text at after h s = grind (arith, drop_all, onto_new, take_all)

-- ---- pairs

turns_onto : (before inner rest : List ℕ) (b : ℕ) (parts : List (List ℕ)) → by_turns (before ∷ inner ∷ onto_first b parts) ≡ links before ++ (quoted before inner (b ∷ rest) ++ by_turns (onto_first b parts))
turns_onto before inner rest b [] = refl
turns_onto before inner rest b (part ∷ parts) = refl

-- only the first byte after a literal counts
turns_first : (before inner after : List ℕ) → begins_quote after ≡ false → by_turns (before ∷ inner ∷ lone_parts after) ≡ links before ++ (quoted before inner after ++ by_turns (lone_parts after))
turns_first before inner [] h = refl
turns_first before inner (b ∷ after) h =
    let split : lone_parts (b ∷ after) ≡ onto_first b (lone_split (is_quote b) after) = ap (λ (q : Bool). if q && true && not (begins_quote after) then [] ∷ lone_split (is_quote b) after else onto_first b (lone_split (is_quote b) after)) h in
    ap (λ parts. by_turns (before ∷ inner ∷ parts)) split
    ∙ turns_onto before inner after b (lone_split (is_quote b) after)
    ∙ ap (λ parts. links before ++ (quoted before inner (b ∷ after) ++ by_turns parts)) (sym split)

pub pair_said : (text before rest inner after : List ℕ) → IsLoneCut text before rest → IsLoneCut rest inner after → by_turns (lone_parts text) ≡ links before ++ (quoted before inner after ++ by_turns (lone_parts after))
pair_said text before rest inner after first second = ap by_turns (first.parts ∙ ap (λ parts. before ∷ parts) second.parts) ∙ turns_first before inner after second.apart

pub one_alone : (text before rest : List ℕ) → IsLoneCut text before rest → lone_parts rest ≡ rest ∷ [] → by_turns (lone_parts text) ≡ links text
one_alone text before rest first none = ap by_turns (first.parts ∙ ap (λ parts. before ∷ parts) none) ∙ ap links (sym first.whole)

pub shorter : (text before rest inner after : List ℕ) → IsLoneCut text before rest → IsLoneCut rest inner after → length after < length text
shorter text before rest inner after first second = let e = first.whole in let f = second.whole in grind (arith, length-append)
