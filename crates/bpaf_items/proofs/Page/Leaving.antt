-- What calls that write leave, one after another.
use Rattle.std.specs.Prelude.{◌++◌, ◌+◌, ◌<◌, ◌∷◌, ◌≡◌}
use Rattle.bpaf_items.proofs.Words.{ℕ, length, List, [], flat_map, map, take, Result, Ok, Err, OnOk, OnErr, Bor, ap, sym, ◌∙◌, append-nil, drop, get_or, arith, flat_map-append, common_steps, drop_more, map-append, take-append-drop, take_more, Style, Part, Write, with_text, with_writes, with_writes-append, with_text_twice, Grows-then, Grows-call, Leaves, joined, piece_writes, pieces_write}
use Rattle.bpaf_items.specs.declared.meta_help.pieces.Piece.{Piece}

pub map_next : {X Y : Type 0} (f : X → Y) (xs : List X) (i : ℕ) (x : X) → i < length xs → x ≡ get_or xs i x → map f (take (i + 1) xs) ≡ map f (take i xs) ++ f x ∷ []
map_next f xs i x within is = ap (map f) (take_more xs i x within) ∙ map-append f (take i xs) (get_or xs i x ∷ []) ∙ ap (λ y. map f (take i xs) ++ f y ∷ []) (sym is)

-- what stands around an element
pub map_around : {X Y : Type 0} (f : X → Y) (xs : List X) (i : ℕ) (x d : X) → x ≡ get_or xs i d → i < length xs → map f xs ≡ map f (take i xs) ++ f x ∷ map f (drop (i + 1) xs)
map_around f xs i x d at below = grind (arith, take-append-drop i xs, drop_more xs i d below, map-append f (take i xs) (get_or xs i d ∷ drop (i + 1) xs))

pub flat_map_next : {X Y : Type 0} (f : X → List Y) (xs : List X) (i : ℕ) (d : X) → i < length xs → flat_map f (take (i + 1) xs) ≡ flat_map f (take i xs) ++ f (get_or xs i d)
flat_map_next f xs i d within = grind (arith, take_more xs i d within, flat_map-append f (take i xs) (get_or xs i d ∷ []), append-nil (f (get_or xs i d)))

-- the next piece of some
pub pieces_next : {X : Type 0} (writes : X → List Write) (xs : List X) (i : ℕ) (x : X) (before mid now : List Part) → i < length xs → x ≡ get_or xs i x
    → mid ≡ with_writes before (flat_map writes (take i xs)) → now ≡ with_writes mid (writes x) → now ≡ with_writes before (flat_map writes (take (i + 1) xs))
pieces_next writes xs i x before mid now within is e f = grind (arith, with_writes-append before (flat_map writes (take i xs)) (writes (get_or xs i x)), flat_map_next writes xs i x within)

pub joined-all : (texts : List (Bor (List ℕ))) → joined texts ≡ flat_map (λ t. t.now) texts
joined-all (t ∷ u ∷ ts) = ap (λ bytes. t.now ++ bytes) (joined-all (u ∷ ts))
joined-all x = grind (arith, append-nil)

pub pieces-all : {A : Type 0} (ps : List (Piece A)) → pieces_write ps ≡ flat_map piece_writes ps
pieces-all (p ∷ q ∷ ps) = ap (λ ws. piece_writes p ++ ws) (pieces-all (q ∷ ps))
pieces-all x = grind (arith, append-nil)

-- a call that leaves everything where it fails
pub leaves_call : {T E : Type 0} (r : Result T E) (before now : List Part) (ws : List Write) → OnOk r (now ≡ with_writes before ws) → OnErr r (now ≡ before) → Leaves r before now ws
leaves_call r before now ws ok err = (Grows-call r before now ws ok err, ok)

-- a call after one that succeeded
pub leaves_then : {T E : Type 0} (r : Result T E) (before mid now : List Part) (vs ws : List Write) → mid ≡ with_writes before vs → Leaves r mid now ws → Leaves r before now (vs ++ ws)
leaves_then (Ok x) before mid now vs ws e (grows, ok) = (Grows-then before mid now (vs, e) grows, ok ∙ ap (λ ps. with_writes ps ws) e ∙ sym (with_writes-append before vs ws))
leaves_then (Err x) before mid now vs ws e (grows, ok) = (Grows-then before mid now (vs, e) grows, tt)

-- a call after two that succeeded
pub leaves_third : {T E : Type 0} (r : Result T E) (before first mid now : List Part) (us vs ws : List Write) → first ≡ with_writes before us → mid ≡ with_writes first vs → Leaves r mid now ws → Leaves r before now ((us ++ vs) ++ ws)
leaves_third r before first mid now us vs ws e f h = leaves_then r before mid now (us ++ vs) ws (f ∙ ap (λ ps. with_writes ps vs) e ∙ sym (with_writes-append before us vs)) h

-- the next of some texts that are written as one
pub text_next : (texts : List (Bor (List ℕ))) (i : ℕ) (d : Bor (List ℕ)) (before mid now : List Part) (how : Style) → i < length texts
    → mid ≡ with_text before (flat_map (λ x. x.now) (take i texts)) how → now ≡ with_text mid (get_or texts i d).now how → now ≡ with_text before (flat_map (λ x. x.now) (take (i + 1) texts)) how
text_next texts i d before mid now how within e f = grind (arith, common_steps, with_text_twice before, flat_map_next)

-- writes after writes, where the call before succeeded
pub written_then : (before mid now : List Part) (vs ws : List Write) → mid ≡ with_writes before vs → now ≡ with_writes mid ws → now ≡ with_writes before (vs ++ ws)
written_then before mid now vs ws e f = f ∙ ap (λ ps. with_writes ps ws) e ∙ sym (with_writes-append before vs ws)
