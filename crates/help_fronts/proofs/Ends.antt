-- What stands before the rest of a text.
use Rattle.std.proofs.lemmas.Grind.{common_steps}
use Rattle.std.proofs.Common.{◌≡◌, ℕ, ◌+◌, ◌-◌, Bool, List, [], ◌∷◌, ◌++◌, map, length, take, sym, ap, ◌∙◌, append_assoc, append-nil, arith, length-append, Option, subst}
use Rattle.std.specs.List.{concat}
use Rattle.std.specs.Option.{option_map}
use Rattle.std.proofs.lemmas.List.{map-append}
use Rattle.std.specs.Str.{IsCharBoundary, IsUtf8}
use Rattle.std.proofs.lemmas.Str.{IsCharBoundary-at_seam}
use Rattle.help_fronts.specs.Pieces.{pieces, word}
use Rattle.help_fronts.specs.Words.{value_word}
use Rattle.help_fronts.specs.Fronts.{after_front, belonging, first_joint, first_value, from_last, front_from, front_said, FrontSaid, gap_of, help_of, is_value_optional, names, values}
use Rattle.help_fronts.specs.declared.front.Kind.{Kind}

abbrev pub front_of : (text rest : List ℕ) → List ℕ
front_of text rest = take (length text - length rest) text

abbrev pub IsEnd : (text rest : List ℕ) → Type 0
IsEnd text rest = text ≡ front_of text rest ++ rest

pub front_is : (text front rest : List ℕ) → text ≡ front ++ rest → front_of text rest ≡ front
front_is text front rest e = grind (arith, common_steps, length-append front rest)

pub whole_end : (text : List ℕ) → IsEnd text text
whole_end text = let none : 0 ≡ length text - length text = omega arith in ap (λ n. take n text ++ text) none

pub front_whole : (text : List ℕ) → front_of text text ≡ []
front_whole text = let none : length text - length text ≡ 0 = omega arith in ap (λ n. take n text) none

module _ (text rest piece after : List ℕ) (is_end : IsEnd text rest) (cut : rest ≡ piece ++ after) where
  joined_whole : text ≡ (front_of text rest ++ piece) ++ after
  joined_whole = is_end ∙ ap (λ r. front_of text rest ++ r) cut ∙ sym (append_assoc (front_of text rest) piece after)

  front_more : front_of text after ≡ front_of text rest ++ piece
  front_more = front_is text (front_of text rest ++ piece) after joined_whole

  pub end_more : IsEnd text after
  end_more = joined_whole ∙ ap (λ f. f ++ after) (sym front_more)

  pub pieces_more : (ps qs : List (List ℕ)) (whole : List ℕ) → ps ≡ piece ∷ qs → whole ≡ front_of text rest ++ concat ps → whole ≡ front_of text after ++ concat qs
  pieces_more ps qs whole e h = h ∙ ap (λ xs. front_of text rest ++ concat xs) e ∙ sym (append_assoc (front_of text rest) piece (concat qs)) ∙ ap (λ f. f ++ concat qs) (sym front_more)

-- after all pieces
pub pieces_done : (text rest : List ℕ) (ps : List (List ℕ)) (whole : List ℕ) → IsEnd text rest → ps ≡ [] → whole ≡ front_of text rest ++ concat ps → text ≡ whole ++ rest
pieces_done text rest ps whole is_end e h = is_end ∙ ap (λ f. f ++ rest) (sym (h ∙ ap (λ xs. front_of text rest ++ concat xs) e ∙ append-nil (front_of text rest)))

-- one more word
pub words_more : {B : Type 0} (now : B → List ℕ) (old new : List B) (pushed : B) (piece : List ℕ) (ps qs : List (List ℕ)) (whole : List (List ℕ)) → ps ≡ piece ∷ qs → new ≡ old ++ pushed ∷ [] → now pushed ≡ word piece
    → map now old ++ map word ps ≡ whole → map now new ++ map word qs ≡ whole
words_more now old new pushed piece ps qs whole e pushes is so_far =
    ap (λ xs. map now xs ++ map word qs) pushes ∙ ap (λ xs. xs ++ map word qs) (map-append now old (pushed ∷ [])) ∙ append_assoc (map now old) (now pushed ∷ []) (map word qs)
    ∙ ap (λ w. map now old ++ w ∷ map word qs) is ∙ sym (ap (λ xs. map now old ++ map word xs) e) ∙ so_far

-- all words
pub words_all : {B : Type 0} (now : B → List ℕ) (old pushed new : List B) (x : B) (first : List ℕ) (ps : List (List ℕ)) → old ≡ [] → pushed ≡ old ++ x ∷ [] → now x ≡ word first → map now new ≡ map now pushed ++ map word ps
    → map now new ≡ map word (first ∷ ps)
words_all now old pushed new x first ps none pushes is h =
    h ∙ ap (λ xs. map now xs ++ map word ps) (pushes ∙ ap (λ xs. xs ++ x ∷ []) none) ∙ ap (λ w. w ∷ map word ps) is

-- the first piece, the others and the rest
pub whole_front : (text first after rest : List ℕ) (ps : List (List ℕ)) → text ≡ first ++ after → after ≡ concat ps ++ rest → text ≡ concat (first ∷ ps) ++ rest
whole_front text first after rest ps e h = e ∙ ap (λ b. first ++ b) h ∙ sym (append_assoc first (concat ps) rest)

pub front_len : (text front rest : List ℕ) → text ≡ front ++ rest → length text - length rest ≡ length front
front_len text front rest e = let long : length text ≡ length front + length rest = ap length e ∙ length-append front rest in omega arith

pub front_ends : (text front rest : List ℕ) → text ≡ front ++ rest → IsUtf8 rest → IsCharBoundary text (length text - length rest)
front_ends text front rest e utf8 = subst (IsCharBoundary text) (sym (front_len text front rest e)) (IsCharBoundary-at_seam text front rest e utf8)

pub cut_whole : (k : Kind) (text first after rest before : List ℕ) → before ≡ word first → text ≡ first ++ after → after ≡ concat (belonging k before (pieces after)) ++ rest → text ≡ concat (front_from k first (pieces after)) ++ rest
cut_whole k text first after rest before e whole h =
    whole_front text first after rest (belonging k (word first) (pieces after)) whole (h ∙ ap (λ w. concat (belonging k w (pieces after)) ++ rest) e)

-- ---- what is said of a front

pub said_is : (front : List (List ℕ)) (text written gap help : List ℕ) (ns vs : List (List ℕ)) (j : ℕ) (v w : Option (List ℕ)) (o : Bool) → ns ≡ names (map word front) → vs ≡ values (from_last (map word front)) → j ≡ first_joint (from_last (map word front)) → v ≡ first_value (values (from_last (map word front))) → w ≡ option_map value_word v
    → o ≡ is_value_optional v → written ≡ concat front → gap ≡ gap_of (after_front front text) → help ≡ help_of (after_front front text)
    → (let f : FrontSaid = record { names = ns; values = vs; joint = j; value = w; is_optional = o; written = written; gap = gap; help = help } in f) ≡ front_said front (after_front front text)
said_is front text written gap help ns vs j v w o hn hs hj hv hw ho hf hg hh = cc
