-- What words choose, by what they give.
use Rattle.std.proofs.Common.{◌≡◌, ◌≢◌, ◌⊎◌, ℕ, List, [], ◌∷◌, ◌++◌, Option, Some, None, false, true, length, get_or, ◌≤◌, ◌<◌, arith, refl, sym, ap, ◌∙◌, Result, Ok, Err, IfErr, IfOk, inl, inr}
use Rattle.std.specs.Prelude.{Bool, codes, ◌||◌, bytes_eq}
use Rattle.std.specs.List.{list_any}
use Rattle.std.proofs.lemmas.Bool.{false≢true}
use Rattle.std.specs.Borrow.{Bor}
use Rattle.command_pages.specs.Pages.{TitleGiven}
use Rattle.command_pages.specs.declared.given.ConsoleForm.TheVariants.{Usage, Full, Brief}
use Rattle.completions.specs.declared.shells.Shell.{Shell}
use Rattle.clidoc_engine.specs.Chosen.{words_said}
use Rattle.clidoc_engine.specs.declared.reading.WordFault.{WordFault}
use Rattle.clidoc_engine.specs.Reading.{IsRefused}
use Rattle.clidoc_engine.specs.Words.{Given, given_in, PageSaid, console, html, markdown, man, completion, in_json, differences, ChoiceSaid, Chooses, ChoosesWork, Takes, Split, page, check, all, draft, against, help, version, is_one_of, NamesPage, IsPageOf, IsCheck, IsAll, IsComplete, IsJson, IsDraft, IsAgainst}

-- ---- the first word, and those after it

pub chosen_otherwise : (terminal : ℕ) (words : List (List ℕ)) (word : List ℕ) (after : List (List ℕ)) (g : Given) → given_in words ≡ Some g → g.plain ++ g.files ≡ word ∷ after
    → ((choice : ChoiceSaid) → ¬ Takes terminal word after g choice) → (choice : ChoiceSaid) → ¬ ChoosesWork terminal words choice
chosen_otherwise terminal words word after g given split none choice h = grind arith

pub nothing_given : (terminal : ℕ) (words : List (List ℕ)) → given_in words ≡ None → (choice : ChoiceSaid) → ¬ ChoosesWork terminal words choice
nothing_given terminal words none choice h = grind arith

pub no_word : (terminal : ℕ) (words : List (List ℕ)) (g : Given) → given_in words ≡ Some g → g.plain ≡ [] → (choice : ChoiceSaid) → ¬ ChoosesWork terminal words choice
no_word terminal words g given none choice h = grind arith

pub chosen : {T : Type 0} (said : T → ChoiceSaid) (terminal : ℕ) (words : List (List ℕ)) (word : List ℕ) (after : List (List ℕ)) (g : Given) (r : Result T WordFault) → Split words word after g
    → IfOk r (λ t. Takes terminal word after g (said t)) → IfOk r (λ t. ChoosesWork terminal words (said t))
chosen said terminal words word after g (Ok t) split h = (word, after, g, split, h)
chosen said terminal words word after g (Err f) split h = tt

-- ---- a word of its own is no other's

abbrev is_page_word : List ℕ → Bool
is_page_word word = list_any (bytes_eq word) (codes "usage" ∷ codes "full" ∷ codes "brief" ∷ codes "html" ∷ codes "markdown" ∷ codes "man" ∷ [])

named : (terminal : ℕ) (word : List ℕ) (g : Given) (p : PageSaid) → NamesPage terminal word g p → is_page_word word ≡ true
named terminal word g (console Usage commands width) h = ap is_page_word h.0
named terminal word g (console Full commands width) h = ap is_page_word h.0
named terminal word g (console Brief commands width) h = ap is_page_word h.0
named terminal word g (html extent commands title) h = ap is_page_word h.0
named terminal word g (markdown commands depth) h = ap is_page_word h.0
named terminal word g (man commands depth title) h = ap is_page_word h.0
named terminal word g (completion shell) h = absurd h
named terminal word g in_json h = absurd h
named terminal word g (differences text commands) h = absurd h

unnamed : (terminal : ℕ) (word : List ℕ) (g : Given) → is_page_word word ≡ false → (p : PageSaid) → ¬ NamesPage terminal word g p
unnamed terminal word g e p h = false≢true (sym e ∙ named terminal word g p h)

-- no word is two
apart : (word one other : List ℕ) → word ≡ one → word ≡ other → bytes_eq one one ≡ true → bytes_eq other one ≡ false → ⊥
apart word one other e f same differ = false≢true (sym differ ∙ ap (λ w. bytes_eq w one) (sym f ∙ e) ∙ same)

module _ (terminal : ℕ) (word : List ℕ) (after : List (List ℕ)) (g : Given) where
  -- of pages the one in a shell has a word of its own
  pub taken_page : (p : PageSaid) (file : Option (List ℕ)) → IsPageOf terminal word after g p file → Takes terminal word after g (page p file)
  taken_page (console form commands width) file h = h
  taken_page (html extent commands title) file h = h
  taken_page (markdown commands depth) file h = h
  taken_page (man commands depth title) file h = h
  taken_page (completion shell) file h = absurd h.1
  taken_page in_json file h = absurd h.1
  taken_page (differences text commands) file h = absurd h.1

  -- the first word of a page: that of a completion, that of JSON, or that of another page
  no_page : is_page_word word ≡ false → word ≢ codes "complete" → word ≢ codes "json" → (p : PageSaid) (file : Option (List ℕ)) → ¬ Takes terminal word after g (page p file)
  no_page e f j (completion shell) file h = f h.0
  no_page e f j in_json file h = j h.0
  no_page e f j (differences text commands) file h = absurd h.1
  no_page e f j (console form commands width) file h = unnamed terminal word g e (console form commands width) h.1
  no_page e f j (html extent commands title) file h = unnamed terminal word g e (html extent commands title) h.1
  no_page e f j (markdown commands depth) file h = unnamed terminal word g e (markdown commands depth) h.1
  no_page e f j (man commands depth title) file h = unnamed terminal word g e (man commands depth title) h.1

  pub only_check : word ≡ codes "check" → ((is_strict : Bool) (file : Option (List ℕ)) → ¬ IsCheck after g is_strict file) → (choice : ChoiceSaid) → ¬ Takes terminal word after g choice
  only_check e none (page p file) h = no_page (ap is_page_word e) (λ f. apart word (codes "check") (codes "complete") e f refl refl) (λ f. apart word (codes "check") (codes "json") e f refl refl) p file h
  only_check e none (check is_strict file) h = none is_strict file h.1
  only_check e none (all folder title file) h = apart word (codes "check") (codes "all") e h.0 refl refl
  only_check e none (draft name file) h = apart word (codes "check") (codes "draft") e h.0 refl refl
  only_check e none (against printed commands file) h = apart word (codes "check") (codes "against") e h.0 refl refl
  only_check e none help h = h
  only_check e none version h = h

  pub only_all : word ≡ codes "all" → ((folder : List ℕ) (title : TitleGiven) (file : Option (List ℕ)) → ¬ IsAll after g folder title file) → (choice : ChoiceSaid) → ¬ Takes terminal word after g choice
  only_all e none (page p file) h = no_page (ap is_page_word e) (λ f. apart word (codes "all") (codes "complete") e f refl refl) (λ f. apart word (codes "all") (codes "json") e f refl refl) p file h
  only_all e none (check is_strict file) h = apart word (codes "all") (codes "check") e h.0 refl refl
  only_all e none (all folder title file) h = none folder title file h.1
  only_all e none (draft name file) h = apart word (codes "all") (codes "draft") e h.0 refl refl
  only_all e none (against printed commands file) h = apart word (codes "all") (codes "against") e h.0 refl refl
  only_all e none help h = h
  only_all e none version h = h

  pub only_completion : word ≡ codes "complete" → ((shell : Shell) (file : Option (List ℕ)) → ¬ IsComplete after g shell file) → (choice : ChoiceSaid) → ¬ Takes terminal word after g choice
  only_completion e none (page (completion shell) file) h = none shell file h.1
  only_completion e none (page (console form commands width) file) h = unnamed terminal word g (ap is_page_word e) (console form commands width) h.1
  only_completion e none (page (html extent commands title) file) h = unnamed terminal word g (ap is_page_word e) (html extent commands title) h.1
  only_completion e none (page (markdown commands depth) file) h = unnamed terminal word g (ap is_page_word e) (markdown commands depth) h.1
  only_completion e none (page (man commands depth title) file) h = unnamed terminal word g (ap is_page_word e) (man commands depth title) h.1
  only_completion e none (page (differences text commands) file) h = absurd h.1
  only_completion e none (page in_json file) h = apart word (codes "complete") (codes "json") e h.0 refl refl
  only_completion e none (check is_strict file) h = apart word (codes "complete") (codes "check") e h.0 refl refl
  only_completion e none (all folder title file) h = apart word (codes "complete") (codes "all") e h.0 refl refl
  only_completion e none (draft name file) h = apart word (codes "complete") (codes "draft") e h.0 refl refl
  only_completion e none (against printed commands file) h = apart word (codes "complete") (codes "against") e h.0 refl refl
  only_completion e none help h = h
  only_completion e none version h = h

  pub only_json : word ≡ codes "json" → ((file : Option (List ℕ)) → ¬ IsJson after g file) → (choice : ChoiceSaid) → ¬ Takes terminal word after g choice
  only_json e none (page (completion shell) file) h = apart word (codes "json") (codes "complete") e h.0 refl refl
  only_json e none (page (differences text commands) file) h = absurd h.1
  only_json e none (page in_json file) h = none file h.1
  only_json e none (page (console form commands width) file) h = unnamed terminal word g (ap is_page_word e) (console form commands width) h.1
  only_json e none (page (html extent commands title) file) h = unnamed terminal word g (ap is_page_word e) (html extent commands title) h.1
  only_json e none (page (markdown commands depth) file) h = unnamed terminal word g (ap is_page_word e) (markdown commands depth) h.1
  only_json e none (page (man commands depth title) file) h = unnamed terminal word g (ap is_page_word e) (man commands depth title) h.1
  only_json e none (check is_strict file) h = apart word (codes "json") (codes "check") e h.0 refl refl
  only_json e none (all folder title file) h = apart word (codes "json") (codes "all") e h.0 refl refl
  only_json e none (draft name file) h = apart word (codes "json") (codes "draft") e h.0 refl refl
  only_json e none (against printed commands file) h = apart word (codes "json") (codes "against") e h.0 refl refl
  only_json e none help h = h
  only_json e none version h = h

  pub only_draft : word ≡ codes "draft" → ((name file : Option (List ℕ)) → ¬ IsDraft after g name file) → (choice : ChoiceSaid) → ¬ Takes terminal word after g choice
  only_draft e none (page p file) h = no_page (ap is_page_word e) (λ f. apart word (codes "draft") (codes "complete") e f refl refl) (λ f. apart word (codes "draft") (codes "json") e f refl refl) p file h
  only_draft e none (check is_strict file) h = apart word (codes "draft") (codes "check") e h.0 refl refl
  only_draft e none (all folder title file) h = apart word (codes "draft") (codes "all") e h.0 refl refl
  only_draft e none (draft name file) h = none name file h.1
  only_draft e none (against printed commands file) h = apart word (codes "draft") (codes "against") e h.0 refl refl
  only_draft e none help h = h
  only_draft e none version h = h

  pub only_against : word ≡ codes "against" → ((printed : List ℕ) (commands : List (List ℕ)) (file : Option (List ℕ)) → ¬ IsAgainst after g printed commands file) → (choice : ChoiceSaid) → ¬ Takes terminal word after g choice
  only_against e none (page p file) h = no_page (ap is_page_word e) (λ f. apart word (codes "against") (codes "complete") e f refl refl) (λ f. apart word (codes "against") (codes "json") e f refl refl) p file h
  only_against e none (check is_strict file) h = apart word (codes "against") (codes "check") e h.0 refl refl
  only_against e none (all folder title file) h = apart word (codes "against") (codes "all") e h.0 refl refl
  only_against e none (against printed commands file) h = none printed commands file h.1
  only_against e none (draft name file) h = apart word (codes "against") (codes "draft") e h.0 refl refl
  only_against e none help h = h
  only_against e none version h = h

  pub only_page : word ≢ codes "check" → word ≢ codes "all" → word ≢ codes "complete" → word ≢ codes "json" → word ≢ codes "draft" → word ≢ codes "against" → ((p : PageSaid) (file : Option (List ℕ)) → ¬ IsPageOf terminal word after g p file) → (choice : ChoiceSaid) → ¬ Takes terminal word after g choice
  only_page no_check no_all no_completion no_json no_draft no_against none (page (completion shell) file) h = no_completion h.0
  only_page no_check no_all no_completion no_json no_draft no_against none (page in_json file) h = no_json h.0
  only_page no_check no_all no_completion no_json no_draft no_against none (page (differences text commands) file) h = absurd h.1
  only_page no_check no_all no_completion no_json no_draft no_against none (page (console form commands width) file) h = none (console form commands width) file h
  only_page no_check no_all no_completion no_json no_draft no_against none (page (html extent commands title) file) h = none (html extent commands title) file h
  only_page no_check no_all no_completion no_json no_draft no_against none (page (markdown commands depth) file) h = none (markdown commands depth) file h
  only_page no_check no_all no_completion no_json no_draft no_against none (page (man commands depth title) file) h = none (man commands depth title) file h
  only_page no_check no_all no_completion no_json no_draft no_against none (check is_strict file) h = no_check h.0
  only_page no_check no_all no_completion no_json no_draft no_against none (all folder title file) h = no_all h.0
  only_page no_check no_all no_completion no_json no_draft no_against none (draft name file) h = no_draft h.0
  only_page no_check no_all no_completion no_json no_draft no_against none (against printed commands file) h = no_against h.0
  only_page no_check no_all no_completion no_json no_draft no_against none help h = h
  only_page no_check no_all no_completion no_json no_draft no_against none version h = h

-- ---- with what the program says of itself

pub chosen_work : (terminal : ℕ) (words : List (List ℕ)) (choice : ChoiceSaid) → ChoosesWork terminal words choice → Chooses terminal words choice
chosen_work terminal words (page p file) h = h
chosen_work terminal words (check is_strict file) h = h
chosen_work terminal words (all folder title file) h = h
chosen_work terminal words (draft name file) h = h
chosen_work terminal words (against printed commands file) h = h
chosen_work terminal words help h = absurd h.4
chosen_work terminal words version h = absurd h.4

no_work : (terminal : ℕ) (words : List (List ℕ)) → ((choice : ChoiceSaid) → ¬ ChoosesWork terminal words choice) → ¬ Chooses terminal words help → ¬ Chooses terminal words version → (choice : ChoiceSaid) → ¬ Chooses terminal words choice
no_work terminal words none h v (page p file) = none (page p file)
no_work terminal words none h v (check is_strict file) = none (check is_strict file)
no_work terminal words none h v (all folder title file) = none (all folder title file)
no_work terminal words none h v (draft name file) = none (draft name file)
no_work terminal words none h v (against printed commands file) = none (against printed commands file)
no_work terminal words none h v help = h
no_work terminal words none h v version = v

-- where the words choose no work, and do not ask for the program itself, they choose nothing
pub no_choice : {T : Type 0} (terminal : ℕ) (words : List (List ℕ)) (r : Result T WordFault) → IfErr r (λ fault. IsRefused fault ⊎ ((choice : ChoiceSaid) → ¬ ChoosesWork terminal words choice))
    → is_one_of words (codes "--help") (codes "-h") ≡ false → is_one_of words (codes "--version") (codes "-V") ≡ false
    → IfErr r (λ fault. IsRefused fault ⊎ ((choice : ChoiceSaid) → ¬ Chooses terminal words choice))
no_choice terminal words (Ok t) none h v = tt
no_choice terminal words (Err f) (inl refused) h v = inl refused
no_choice terminal words (Err f) (inr none) h v = inr (no_work terminal words none (λ e. false≢true (sym h ∙ e)) (λ e. false≢true (sym v ∙ e)))

pub one_word : (words : List (Bor (List ℕ))) (d : Bor (List ℕ)) (long short : List ℕ) → 1 ≤ length words → length words < 2 → is_one_of (words_said words) long short ≡ (bytes_eq (get_or words 0 d).now long || bytes_eq (get_or words 0 d).now short)
one_word [] d long short some few = absurd (omega arith)
one_word (w ∷ []) d long short some few = refl
one_word (w ∷ v ∷ ws) d long short some few = absurd (omega arith)
