-- The sample application: by computing, its one item is not misplaced and its texts are well nested. So its pages are
-- never refused for a misplaced item, and their promises hold without a premise.
use Rattle.std.specs.Prelude.{◌≡◌, ℕ, ◌++◌, false, List, [], ◌∷◌, All, Contains, Result, Ok, Err, IfErr, codes, refl}
use Rattle.std.specs.Result.{IsErrAnd}
use Rattle.std.proofs.Common.{subst, sym, ◌∙◌, arith}
use Rattle.std.proofs.lemmas.List.Elements.{All-cons, All-head, All-nil, All-tail}
use Rattle.bpaf_doc.specs.declared.buffer.Style.TheVariants as style
use Rattle.bpaf_doc.specs.Buffer.Parts.{Part, IsWellNested, text}
use Rattle.bpaf_meta.specs.Content.{Tree, Leaf, Head, skip}
use Rattle.bpaf_meta.specs.Meta.Misplaced.{IsWellPlaced, IsFirstMisplaced}
use Rattle.bpaf_meta.specs.View.{leaf_of}
use Rattle.bpaf_items.specs.declared.meta_help.error.HelpError.{HelpError}
use Rattle.bpaf_items.specs.declared.meta_help.error.HelpError.TheVariants as error
use Rattle.bpaf_items.specs.Page.EnvTexts.{Texts}
use Rattle.bpaf_items.specs.Page.PageAnswers.{IsHelpPageAnswer, page}
use Rattle.bpaf_items.specs.View.{answer_of}
use Rattle.bpaf_help.specs.Chapters.{Chapter, AreWellPlaced, IsFirstMisplacedOf, chapters_of}
use Rattle.bpaf_help.specs.NestedPages.{HasNestedChapter, HasNestedPages, CollectedPagesAreNested}
use Rattle.bpaf_help.specs.PageAnswers.{AreErrorOf, collected_document, manual_document}
use Rattle.helpdoc_engine.specs.declared.faults.Fault.{Fault}
use Rattle.helpdoc_engine.specs.declared.faults.Fault.TheVariants.{Memory}
use Rattle.helpdoc_engine.specs.Faults.{fault_of}
use Rattle.helpdoc_engine.specs.Sample.{sample_help, sample_info, sample_manual, sample_name, sample_pages, sample_tree}

-- ---- what computes

sample_placed : IsWellPlaced sample_tree
sample_placed = refl

abbrev sample_chapters : List Chapter
sample_chapters = chapters_of (sample_name ∷ []) sample_info sample_tree

samples_placed : AreWellPlaced sample_chapters
samples_placed = All-cons (λ c. IsWellPlaced c.content) (record { path = sample_name ∷ []; info = sample_info; content = sample_tree }) [] sample_placed (All-nil (λ c. IsWellPlaced c.content))

sample_nested : HasNestedPages sample_name sample_info sample_tree
sample_nested =
    All-cons HasNestedChapter (record { path = sample_name ∷ []; info = sample_info; content = sample_tree }) []
    ((text (codes "Prints things") style.Text refl, tt, tt, tt, tt), text (codes "Talk more") style.Text refl) (All-nil HasNestedChapter)

-- ---- what never comes

no_member : {X : Type 0} (x : X) → Contains [] x → ⊥
no_member x member = omega (arith, member.1)

never_first : (t : Tree) (l : Leaf) → IsWellPlaced t → IsFirstMisplaced t l → ⊥
never_first t l placed first = no_member (first.0, l) (subst (λ xs. Contains xs (first.0, l)) placed first.1)

middle : {X : Type 0} (P : X → Type 0) (front : List X) (x : X) (back : List X) → All P (front ++ x ∷ back) → P x
middle P [] x back all = All-head P x back all
middle P (y ∷ front) x back all = middle P front x back (All-tail P y (front ++ x ∷ back) all)

never_first_of : (chapters : List Chapter) (l : Leaf) → AreWellPlaced chapters → IsFirstMisplacedOf chapters l → ⊥
never_first_of chapters l placed first =
    never_first first.faulty.content l (middle (λ c. IsWellPlaced c.content) first.front first.faulty first.back (subst AreWellPlaced first.order placed)) first.first

-- an error that is passed on
pub only_memory : {X : Type 0} (result : Result X Fault) (fault : Fault) → IsErrAnd result (λ f. f ≡ fault) → fault ≡ Memory → IfErr result (λ f. f ≡ Memory)
only_memory (Ok x) fault same memory = tt
only_memory (Err f) fault same memory = same ∙ memory

-- ---- the help page

-- whatever map of texts it is made with
pub sample_help_is : (path : List (List ℕ)) (i : Head) (t help : Tree) (texts : Texts) (document : List Part) → path ≡ sample_name ∷ [] → i ≡ sample_info → t ≡ sample_tree → help ≡ skip
    → IsHelpPageAnswer path i t help false texts (page document) → document ≡ sample_help
unfolding sample_help
sample_help_is path i t help texts document p q r s answer = rw (p, q, r, s) at answer.1

pub help_page_fault : {A : Type 0} (path : List (List ℕ)) (i : Head) (t help : Tree) (texts : Texts) (e : HelpError A) → t ≡ sample_tree
    → IsHelpPageAnswer path i t help false texts (answer_of {X = List Part} (Err e)) → fault_of e ≡ Memory
help_page_fault path i t help texts (error.Memory refused) same answer = refl
help_page_fault path i t help texts (error.Misplaced l) same answer = absurd (never_first t (leaf_of l.now) (subst IsWellPlaced (sym same) sample_placed) answer)

-- ---- the pages of the application

pub pages_fault : {A : Type 0} (app : List ℕ) (t : Tree) (i : Head) (e : HelpError A) → app ≡ sample_name → t ≡ sample_tree → i ≡ sample_info
    → AreErrorOf (chapters_of (app ∷ []) i t) e → fault_of e ≡ Memory
pages_fault app t i (error.Memory refused) p q r answer = refl
pages_fault app t i (error.Misplaced l) p q r answer = absurd (never_first_of sample_chapters (leaf_of l.now) samples_placed (rw (p, q, r) at answer))

pub sample_pages_are : (app : List ℕ) (t : Tree) (i : Head) → app ≡ sample_name → t ≡ sample_tree → i ≡ sample_info → collected_document app t i ≡ sample_pages
unfolding sample_pages
sample_pages_are app t i p q r = rw (p, q, r) refl

pub sample_pages_nested : CollectedPagesAreNested → IsWellNested sample_pages
unfolding sample_pages
sample_pages_nested law = law sample_name sample_tree sample_info sample_nested

-- ---- its manual page

pub sample_manual_is : (app : List ℕ) (t : Tree) (i : Head) → app ≡ sample_name → t ≡ sample_tree → i ≡ sample_info → manual_document app t i ≡ sample_manual
unfolding sample_manual
sample_manual_is app t i p q r = rw (p, q, r) refl
