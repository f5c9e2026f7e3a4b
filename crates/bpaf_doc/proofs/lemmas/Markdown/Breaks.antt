-- Nothing stands between the words of a markdown text, and breaks stand where they were asked for.
use Rattle.std.specs.Prelude.{◌&&◌, ◌++◌, ◌||◌, ◌∷◌, ◌≡◌}
use Rattle.bpaf_doc.proofs.lemmas.Markdown.Words.{Bool, true, false, List, [], refl, ap, append_assoc, append-nil, arith, not, IsTrue, list_any, false≢true, and_parts, and_from, not-true, or_right, cases_Bool, Raw, is_ordinary, is_whole_line, is_paragraph, is_line_break, code_weight, fence_weight, Fragment, Shown, shows, Newline, MarkdownSnippet, is_newline, Put, Of, fragments_in, Touch, Marked, marked_after, and-false}
use Rattle.bpaf_doc.proofs.lemmas.Lists.Passing.{implies}
use Rattle.bpaf_doc.proofs.lemmas.Markdown.Cut.{by_weight, own_snippets, cut_from, item_snippets, step-flags, step-code, item-code, item_marks, new_line_marks}
use Rattle.bpaf_doc.proofs.lemmas.Snippets.{all_followed, followed_at, quiet_followed, touches, other_touches, touching_between}
use Rattle.bpaf_doc.proofs.lemmas.Markdown.Kept.{cut-fragments}

-- ---- what follows a fragment

abbrev begins_line : List MarkdownSnippet → Bool
begins_line (Put Newline ∷ ss) = true
begins_line _ = false

abbrev begins_two : List MarkdownSnippet → Bool
begins_two (Put Newline ∷ Put Newline ∷ ss) = true
begins_two _ = false

-- two newlines follow a paragraph break, one a line break and a whole line, and nothing stands between ordinary Raws
abbrev is_followed : Fragment → List MarkdownSnippet → Bool
is_followed f rest =
    (not (shows is_paragraph f) || begins_two rest) && ((not (shows is_line_break f || shows is_whole_line f) || begins_line rest) && (not (shows is_ordinary f) || touches (shows is_ordinary) rest))

-- a fragment that asks something of what follows
abbrev asks : Fragment → Bool
asks f = shows is_paragraph f || ((shows is_line_break f || shows is_whole_line f) || shows is_ordinary f)

quiet : (f : Fragment) (rest : List MarkdownSnippet) → asks f ≡ false → is_followed f rest ≡ true
quiet f rest e = grind arith

abbrev followed : List MarkdownSnippet → Bool
followed ss = all_followed is_followed ss

marks_followed : (marks rest : List MarkdownSnippet) → fragments_in marks ≡ [] → followed rest ≡ true → followed (marks ++ rest) ≡ true
marks_followed marks rest none h = quiet_followed is_followed asks quiet marks rest (ap (list_any asks) none) h

own_followed : (p : Marked) (f : Fragment) (rest : List MarkdownSnippet) → (shows is_ordinary f ≡ true → touches (shows is_ordinary) rest ≡ true) → followed rest ≡ true → followed (own_snippets p f ++ rest) ≡ true
own_followed p f rest h1 h2 =
    grind (arith, by_weight, new_line_marks, and_from, not, code_weight, and-false, fence_weight, append_assoc, marks_followed, quiet_followed, quiet)

-- what comes where no item waits and no code block is open
cut_touches : (q : Marked) (fs : List Fragment) → q.pending ≡ false → q.in_code ≡ false → touches (shows is_ordinary) (cut_from q fs) ≡ true
cut_touches q [] e k = rw e refl
cut_touches q (Shown style (Raw bytes weight) ∷ fs) e k = grind (arith, cases_Bool (is_ordinary (Raw bytes weight)), item-code, other_touches (shows is_ordinary) (cut_from q (Shown style (Raw bytes weight) ∷ fs)) (Shown style (Raw bytes weight)) fs, cut-fragments q (Shown style (Raw bytes weight) ∷ fs))
cut_touches q (f ∷ fs) e k = other_touches (shows is_ordinary) (cut_from q (f ∷ fs)) f fs (cut-fragments q (f ∷ fs)) refl

cut_followed : (p : Marked) (fs : List Fragment) → followed (cut_from p fs) ≡ true
cut_followed p [] = rw (← append-nil (item_snippets p.pending false)) (marks_followed (item_snippets p.pending false) [] (item_marks p.pending false) refl)
cut_followed p (f ∷ fs) = grind (arith, cut_followed (marked_after p f) fs, append_assoc, marks_followed, item_marks, own_followed, cut_touches, step-flags, step-code, and_parts, not-true, false≢true)

-- what follows a fragment of a cut
at_fragment : (p : Marked) (fs : List Fragment) (before rest : List MarkdownSnippet) (a : Fragment) → cut_from p fs ≡ before ++ Of a ∷ rest → (is_followed a rest ≡ true) × (followed rest ≡ true)
at_fragment p fs before rest a e = followed_at is_followed (cut_from p fs) before rest a (cut_followed p fs) e

-- ordinary Raws that follow one another in a text touch
pub touching_of : (p : Marked) (fs : List Fragment) → Touch (shows is_ordinary) (cut_from p fs)
touching_of p fs before between after a b e i j none =
    touching_between (shows is_ordinary) between after b (implies _ _ (and_parts _ _ (and_parts _ _ (at_fragment p fs before (between ++ Of b ∷ after) a e).0).1).1 i) j none

-- two newlines that follow stand before the next fragment
two_inside : (between after : List MarkdownSnippet) (b : Fragment) → begins_two (between ++ Of b ∷ after) ≡ true → (back : List MarkdownSnippet) × (between ≡ Put Newline ∷ Put Newline ∷ back)
two_inside (Put Newline ∷ Put Newline ∷ between) after b h = (between, refl)
two_inside _ after b h = absurd (false≢true h)

line_inside : (between after : List MarkdownSnippet) (b : Fragment) → begins_line (between ++ Of b ∷ after) ≡ true → list_any is_newline between ≡ true
line_inside (Put Newline ∷ between) after b h = refl
line_inside _ after b h = absurd (false≢true h)

paragraph_between : (between after : List MarkdownSnippet) (b : Fragment) → followed (between ++ Of b ∷ after) ≡ true → list_any (shows is_paragraph) (fragments_in between) ≡ true
    → (front back : List MarkdownSnippet) × (between ≡ front ++ Put Newline ∷ Put Newline ∷ back)
paragraph_between [] after b h any = absurd (false≢true any)
paragraph_between (Put mark ∷ between) after b h any =
    let found : (front back : List MarkdownSnippet) × (between ≡ front ++ Put Newline ∷ Put Newline ∷ back) = paragraph_between between after b h any in
    (Put mark ∷ found.0, found.1, ap (λ x. Put mark ∷ x) found.2)
paragraph_between (Of f ∷ between) after b h any =
    let parts : (is_followed f (between ++ Of b ∷ after) ≡ true) × (followed (between ++ Of b ∷ after) ≡ true) = and_parts (is_followed f (between ++ Of b ∷ after)) (followed (between ++ Of b ∷ after)) h in
    (elim (shows is_paragraph f) as (λ t. shows is_paragraph f ≡ t → (t || list_any (shows is_paragraph) (fragments_in between)) ≡ true → (front back : List MarkdownSnippet) × (Of f ∷ between ≡ front ++ Put Newline ∷ Put Newline ∷ back)) [
      | true ↦ λ e _.
          let two : (back : List MarkdownSnippet) × (between ≡ Put Newline ∷ Put Newline ∷ back) = grind (arith, two_inside, implies, and_parts) in
          (Of f ∷ [], two.0, ap (λ x. Of f ∷ x) two.1)
      | false ↦ λ e k.
          let found : (front back : List MarkdownSnippet) × (between ≡ front ++ Put Newline ∷ Put Newline ∷ back) = paragraph_between between after b parts.1 k in
          (Of f ∷ found.0, found.1, ap (λ x. Of f ∷ x) found.2)
    ]) refl any

line_break_between : (between after : List MarkdownSnippet) (b : Fragment) → followed (between ++ Of b ∷ after) ≡ true → list_any (shows is_line_break) (fragments_in between) ≡ true → list_any is_newline between ≡ true
line_break_between [] after b h any = absurd (false≢true any)
line_break_between (s ∷ between) after b h any = grind (arith, line_break_between between after b, or_right, and_parts, line_inside, implies)

pub paragraphs_of : (p : Marked) (fs : List Fragment) (before between after : List MarkdownSnippet) (a b : Fragment) → cut_from p fs ≡ before ++ Of a ∷ (between ++ Of b ∷ after)
    → IsTrue (list_any (shows is_paragraph) (fragments_in between)) → (front back : List MarkdownSnippet) × (between ≡ front ++ Put Newline ∷ Put Newline ∷ back)
paragraphs_of p fs before between after a b e any = paragraph_between between after b (at_fragment p fs before (between ++ Of b ∷ after) a e).1 any

pub line_breaks_of : (p : Marked) (fs : List Fragment) (before between after : List MarkdownSnippet) (a b : Fragment) → cut_from p fs ≡ before ++ Of a ∷ (between ++ Of b ∷ after)
    → IsTrue (list_any (shows is_line_break) (fragments_in between)) → IsTrue (list_any is_newline between)
line_breaks_of p fs before between after a b e any = line_break_between between after b (at_fragment p fs before (between ++ Of b ∷ after) a e).1 any

-- after a whole line comes a newline
newline_first : (ss : List MarkdownSnippet) → begins_line ss ≡ true → (rest : List MarkdownSnippet) × (ss ≡ Put Newline ∷ rest)
newline_first ss h = grind (arith, false≢true)

pub newline_after : (p : Marked) (fs : List Fragment) (before after : List MarkdownSnippet) (a : Fragment) → cut_from p fs ≡ before ++ Of a ∷ after → IsTrue (shows is_whole_line a)
    → (rest : List MarkdownSnippet) × (after ≡ Put Newline ∷ rest)
newline_after p fs before after a e whole = newline_first after (implies _ _ (and_parts _ _ (and_parts _ _ (at_fragment p fs before after a e).0).1).0 (or_right (shows is_line_break a) (shows is_whole_line a) whole))
