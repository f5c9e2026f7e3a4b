-- A break stands where a page has to have one, and nothing stands between words.
use Rattle.std.specs.Prelude.{if◌then◌else◌, ◌&&◌, ◌++◌, ◌||◌, ◌∷◌, ◌≡◌}
use Rattle.bpaf_doc.proofs.lemmas.Html.Words.{ℕ, Bool, true, false, List, [], refl, ap, arith, not, IsTrue, list_any, chars-nil, false≢true, and_parts, and_from, Raw, Paragraph, LineBreak, is_inked, is_raw, Fragment, Shown, Start, End, shows, HtmlSnippet, Break, asks_break, is_break, Put, Of, fragments_in, Touch, Written, page_after, is_empty}
use Rattle.bpaf_doc.specs.declared.buffer.Block.TheVariants as blocks
use Rattle.bpaf_doc.proofs.lemmas.Lists.Passing.{implies}
use Rattle.bpaf_doc.proofs.lemmas.Html.Cut.{snippets_of, cut_from, step-fragments, cut-fragments}
use Rattle.bpaf_doc.proofs.lemmas.Snippets.{all_followed, followed_at, quiet_followed, touches, other_touches, touching_between}

-- ---- what follows a Raw

abbrev begins_break : List HtmlSnippet → Bool
begins_break (Put Break ∷ ss) = true
begins_break _ = false

-- up to the first break, nothing asks for one but what stands right before it
abbrev breaks_soon : List HtmlSnippet → Bool
breaks_soon [] = true
breaks_soon (Put Break ∷ ss) = true
breaks_soon (Of f ∷ ss) = if asks_break f then begins_break ss else breaks_soon ss
breaks_soon (_ ∷ ss) = breaks_soon ss

abbrev is_followed : Fragment → List HtmlSnippet → Bool
is_followed f rest = (not (shows is_raw f) || touches (shows is_raw) rest) && (not (shows is_inked f) || breaks_soon rest)

-- ---- a page

abbrev asks : Fragment → Bool
asks f = shows is_raw f || shows is_inked f

quiet : (f : Fragment) (rest : List HtmlSnippet) → asks f ≡ false → is_followed f rest ≡ true
quiet f rest e = grind arith

cut_touches : (p : Written) (fs : List Fragment) → touches (shows is_raw) (cut_from p fs) ≡ true
cut_touches p [] = refl
cut_touches p (f ∷ fs) = grind (arith, other_touches, cut-fragments)

quiet_soon : (ss rest : List HtmlSnippet) → list_any asks_break (fragments_in ss) ≡ false → breaks_soon rest ≡ true → breaks_soon (ss ++ rest) ≡ true
quiet_soon [] rest e h = h
quiet_soon (s ∷ ss) rest e h = grind (arith, quiet_soon ss rest)

-- what comes after something else than a break
cut_soon : (p : Written) (fs : List Fragment) → p.fresh ≡ false → breaks_soon (cut_from p fs) ≡ true
cut_soon p [] h = refl
cut_soon p (Shown style Paragraph ∷ fs) h = refl
cut_soon p (Shown style LineBreak ∷ fs) h = refl
cut_soon p (Start blocks.Header ∷ fs) h = rw h refl
cut_soon p (End blocks.Header ∷ fs) h = rw h refl
cut_soon p (f ∷ fs) h = quiet_soon (snippets_of p f) (cut_from (page_after p f) fs) (ap (list_any asks_break) (step-fragments p f)) (cut_soon (page_after p f) fs (grind arith))

inked_is_text : (bytes : List ℕ) (weight : ℕ) (fresh : Bool) → is_inked (Raw bytes weight) ≡ true → (fresh && is_empty bytes) ≡ false
inked_is_text z0 weight fresh h = grind (arith, false≢true, chars-nil)

implied : (a b : Bool) → (a ≡ true → b ≡ true) → (not a || b) ≡ true
implied a b i = grind arith

cut_followed : (p : Written) (fs : List Fragment) → all_followed is_followed (cut_from p fs) ≡ true
cut_followed p [] = refl
cut_followed p (Shown style (Raw bytes weight) ∷ fs) =
    let next : Written = page_after p (Shown style (Raw bytes weight)) in
    and_from _ _ (and_from _ _ (cut_touches next fs) (implied _ _ (λ i. cut_soon next fs (inked_is_text bytes weight p.fresh i)))) (cut_followed next fs)
cut_followed p (f ∷ fs) = quiet_followed is_followed asks quiet (snippets_of p f) (cut_from (page_after p f) fs) (ap (list_any asks) (step-fragments p f)) (cut_followed (page_after p f) fs)

-- ---- the laws

begins_inside : (between after : List HtmlSnippet) (b : Fragment) → begins_break (between ++ Of b ∷ after) ≡ true → list_any is_break between ≡ true
begins_inside (Put Break ∷ between) after b h = refl
begins_inside _ after b h = absurd (false≢true h)

break_between : (between after : List HtmlSnippet) (b : Fragment) → breaks_soon (between ++ Of b ∷ after) ≡ true → list_any asks_break (fragments_in between) ≡ true → list_any is_break between ≡ true
break_between [] after b h any = absurd (false≢true any)
break_between (s ∷ between) after b h any = grind (arith, break_between between after b, begins_inside)

-- between inked chunks with something between them that asks for a break, there is one
pub breaks_of : (p : Written) (fs : List Fragment) (before between after : List HtmlSnippet) (a b : Fragment) → cut_from p fs ≡ before ++ Of a ∷ (between ++ Of b ∷ after)
    → IsTrue (shows is_inked a) → IsTrue (shows is_inked b) → IsTrue (list_any asks_break (fragments_in between)) → IsTrue (list_any is_break between)
breaks_of p fs before between after a b e i j any = break_between between after b (implies _ _ (and_parts _ _ (followed_at is_followed (cut_from p fs) before (between ++ Of b ∷ after) a (cut_followed p fs) e).0).1 i) any

-- Raws that follow one another in a text touch
pub touching_of : (p : Written) (fs : List Fragment) → Touch (shows is_raw) (cut_from p fs)
touching_of p fs before between after a b e i j none =
    touching_between (shows is_raw) between after b (implies _ _ (and_parts _ _ (followed_at is_followed (cut_from p fs) before (between ++ Of b ∷ after) a (cut_followed p fs) e).0).0 i) j none
