-- Which words choose what.
use Rattle.std.specs.Prelude.{codes, ℕ, ◌≡◌, ◌≢◌, ◌⊎◌, ◌^◌, ◌<◌, ◌≤◌, ◌==◌, ◌||◌, List, [], ◌∷◌, ◌++◌, Bool, true, false, not, if◌then◌else◌, Option, Some, None, option_map, option_to_list, bytes_eq, slice_index}
use Rattle.std.specs.Str.Parse.{IsNumeral, digits_value}
use Rattle.description_pages.specs.declared.levels.Depth.{Depth}
use Rattle.description_pages.specs.declared.levels.Depth.TheVariants.{Alone, Deep}
use Rattle.html_page.specs.declared.frame.Extent.{Extent}
use Rattle.html_page.specs.declared.frame.Extent.TheVariants.{Page, Fragment}
use Rattle.command_pages.specs.Pages.{TitleGiven}
use Rattle.command_pages.specs.declared.given.ConsoleForm.{ConsoleForm}
use Rattle.command_pages.specs.declared.given.ConsoleForm.TheVariants.{Usage, Full, Brief}
use Rattle.clidoc_engine.specs.declared.reading.Valued.{Valued}
use Rattle.clidoc_engine.specs.declared.reading.Valued.TheVariants.{Command, Width, Into, Date, Vendor, Name}
use Rattle.help_differences.specs.Texts.{HelpSaid}
use Rattle.completions.specs.declared.shells.Shell.{Shell}
use Rattle.completions.specs.declared.shells.Shell.TheVariants.{Bash, Zsh, Fish}

-- ---- what is chosen

-- what is printed, as a `Page` of `src/words.rt` says it; `commands` lead to the level that it is about
pub data PageSaid : Type 0 where
  console : ConsoleForm → (commands : List (List ℕ)) → (width : ℕ) → PageSaid
  -- of the level and of all below it
  html : Extent → (commands : List (List ℕ)) → TitleGiven → PageSaid
  markdown : (commands : List (List ℕ)) → Depth → PageSaid
  man : (commands : List (List ℕ)) → Depth → TitleGiven → PageSaid
  completion : Shell → PageSaid
  in_json : PageSaid
  -- the names that either the level or a help text has alone
  differences : HelpSaid → (commands : List (List ℕ)) → PageSaid

pub data ChoiceSaid : Type 0 where
  page : PageSaid → (file : Option (List ℕ)) → ChoiceSaid
  check : (is_strict : Bool) → (file : Option (List ℕ)) → ChoiceSaid
  all : (folder : List ℕ) → TitleGiven → (file : Option (List ℕ)) → ChoiceSaid
  draft : (name file : Option (List ℕ)) → ChoiceSaid
  against : (printed : List ℕ) → (commands : List (List ℕ)) → (file : Option (List ℕ)) → ChoiceSaid
  help : ChoiceSaid
  version : ChoiceSaid

-- ---- what each word gives

-- the words that stand for themselves, the values of each option, each `--deep`,
-- `--fragment` and `--strict`, and the words after `--`, in order
pub record Given : Type 0 where
  pub plain : List (List ℕ)
  pub commands : List (List ℕ)
  pub widths : List (List ℕ)
  pub folders : List (List ℕ)
  pub dates : List (List ℕ)
  pub vendors : List (List ℕ)
  pub names : List (List ℕ)
  pub deeps : List (List ℕ)
  pub fragments : List (List ℕ)
  pub stricts : List (List ℕ)
  pub files : List (List ℕ)

abbrev pub only_files : List (List ℕ) → Given
only_files words = record { plain = []; commands = []; widths = []; folders = []; dates = []; vendors = []; names = []; deeps = []; fragments = []; stricts = []; files = words }

abbrev pub with_plain : List ℕ → Given → Given
with_plain word g = record g { plain = word ∷ g.plain }

abbrev pub with_deep : List ℕ → Given → Given
with_deep word g = record g { deeps = word ∷ g.deeps }

abbrev pub with_fragment : List ℕ → Given → Given
with_fragment word g = record g { fragments = word ∷ g.fragments }

abbrev pub with_strict : List ℕ → Given → Given
with_strict word g = record g { stricts = word ∷ g.stricts }

abbrev pub with_value : Valued → List ℕ → Given → Given
with_value Command value g = record g { commands = value ∷ g.commands }
with_value Width value g = record g { widths = value ∷ g.widths }
with_value Into value g = record g { folders = value ∷ g.folders }
with_value Date value g = record g { dates = value ∷ g.dates }
with_value Vendor value g = record g { vendors = value ∷ g.vendors }
with_value Name value g = record g { names = value ∷ g.names }

abbrev pub option_word : Valued → List ℕ
option_word Command = codes "--command"
option_word Width = codes "--width"
option_word Into = codes "--into"
option_word Date = codes "--date"
option_word Vendor = codes "--vendor"
option_word Name = codes "--name"

pub data Kind : Type 0 where
  dashes : Kind
  plain : Kind
  deep : Kind
  fragment : Kind
  strict : Kind
  apart : Valued → Kind
  joined : Valued → (value : List ℕ) → Kind
  unknown : Kind

-- what follows a front of the word
abbrev pub following : (front word : List ℕ) → Option (List ℕ)
following [] word = Some word
following (c ∷ cs) [] = None
following (c ∷ cs) (d ∷ ds) = if c == d then following cs ds else None

-- an option of these, with its value after `=`
abbrev pub joined_to : Valued → (value : Option (List ℕ)) → (other : Kind) → Kind
joined_to o (Some value) other = joined o value
joined_to o None other = other

abbrev pub joined_kind : List Valued → (word : List ℕ) → Kind
joined_kind [] word = unknown
joined_kind (o ∷ os) word = joined_to o (following (option_word o ++ codes "=") word) (joined_kind os word)

-- a word that is not an option by itself
abbrev pub other_kind : List ℕ → Kind
other_kind word =
    if bytes_eq word (codes "-") || not (slice_index word 0 == 45) then plain else joined_kind (Command ∷ Width ∷ Into ∷ Date ∷ Vendor ∷ Name ∷ []) word

-- a word that begins with `-` is `--`, or `-` alone, or `--deep`, or `--fragment`, or `--strict`, or an option with a
-- value, which follows `=` or is the next word, whatever that is; any other such word is unknown
abbrev pub kind_of : List ℕ → Kind
kind_of word =
    if bytes_eq word (codes "--") then dashes else
    if bytes_eq word (codes "--deep") then deep else
    if bytes_eq word (codes "--fragment") then fragment else
    if bytes_eq word (codes "--strict") then strict else
    if bytes_eq word (option_word Command) then apart Command else
    if bytes_eq word (option_word Width) then apart Width else
    if bytes_eq word (option_word Into) then apart Into else
    if bytes_eq word (option_word Date) then apart Date else
    if bytes_eq word (option_word Vendor) then apart Vendor else
    if bytes_eq word (option_word Name) then apart Name else
    other_kind word

-- what a word gives: alone, before what the others give, or with the next one
abbrev pub given_by : Kind → (word : List ℕ) → (words : List (List ℕ)) → (others : Option Given) → (with_next : Valued → Option Given) → Option Given
given_by dashes word words others with_next = Some (only_files words)
given_by plain word words others with_next = option_map (with_plain word) others
given_by deep word words others with_next = option_map (with_deep word) others
given_by fragment word words others with_next = option_map (with_fragment word) others
given_by strict word words others with_next = option_map (with_strict word) others
given_by (joined o value) word words others with_next = option_map (with_value o value) others
given_by (apart o) word words others with_next = with_next o
given_by unknown word words others with_next = None

-- what the words give together, if each of them gives something
abbrev mutual
  pub given_in : List (List ℕ) → Option Given
  given_in [] = Some (only_files [])
  given_in (word ∷ words) = given_by (kind_of word) word words (given_in words) (λ o. valued_in o words)

  -- where the first is the value of an option
  pub valued_in : Valued → List (List ℕ) → Option Given
  valued_in o [] = None
  valued_in o (value ∷ words) = option_map (with_value o value) (given_in words)

-- ---- what they choose

abbrev pub form_word : ConsoleForm → List ℕ
form_word Usage = codes "usage"
form_word Full = codes "full"
form_word Brief = codes "brief"

-- decimal digits of a number from 1 on that 64 bits hold
pub record IsColumns (text : List ℕ) (n : ℕ) : Type 0 where
  pub numeral : IsNumeral 10 text
  pub value : digits_value 10 text ≡ n
  pub some : 0 < n
  pub fits : n < 2 ^ 64

-- what the environment says of a terminal is a number of columns from 20 on
abbrev pub SaysColumns : (said : Option (List ℕ)) → ℕ → Type 0
SaysColumns None n = ⊥
SaysColumns (Some text) n = IsColumns text n × (20 ≤ n)

-- that number, or 100 if the environment gives none
abbrev pub IsTerminalWidth : (said : Option (List ℕ)) → ℕ → Type 0
IsTerminalWidth said n = SaysColumns said n ⊎ (((m : ℕ) → ¬ SaysColumns said m) × (n ≡ 100))

-- at most one width, and where there is none that of the terminal
abbrev pub IsWidth : (terminal : ℕ) → List (List ℕ) → ℕ → Type 0
IsWidth terminal [] n = n ≡ terminal
IsWidth terminal (text ∷ []) n = IsColumns text n
IsWidth terminal (text ∷ other ∷ texts) n = ⊥

-- the level alone, or with those below it if `--deep` is given once
abbrev pub IsDepth : (deeps : List (List ℕ)) → Depth → Type 0
IsDepth [] depth = depth ≡ Alone
IsDepth (word ∷ []) depth = depth ≡ Deep
IsDepth (word ∷ other ∷ words) depth = ⊥

-- the complete page, or what stands in its body if `--fragment` is given once
abbrev pub IsExtent : (fragments : List (List ℕ)) → Extent → Type 0
IsExtent [] extent = extent ≡ Page
IsExtent (word ∷ []) extent = extent ≡ Fragment
IsExtent (word ∷ other ∷ words) extent = ⊥

-- strict where one word says so, and else not
abbrev pub IsStrict : (stricts : List (List ℕ)) → (is_strict : Bool) → Type 0
IsStrict [] is_strict = is_strict ≡ false
IsStrict (word ∷ []) is_strict = is_strict ≡ true
IsStrict (word ∷ other ∷ words) is_strict = ⊥

-- at most one date, and one vendor
abbrev pub IsTitle : Given → TitleGiven → Type 0
IsTitle g title = (g.dates ≡ option_to_list title.date) × (g.vendors ≡ option_to_list title.vendor)

abbrev pub HasNoTitle : Given → Type 0
HasNoTitle g = (g.dates ≡ []) × (g.vendors ≡ [])

-- no word says which level, or how it is shown
abbrev pub HasNoLevel : Given → Type 0
HasNoLevel g = (g.commands ≡ []) × (g.widths ≡ []) × (g.deeps ≡ []) × (g.fragments ≡ [])

-- each option is one that a page takes: none says where pages are written, how a
-- description is judged, or what a program is called
abbrev pub HasOnlyPageOptions : Given → Type 0
HasOnlyPageOptions g = (g.folders ≡ []) × (g.stricts ≡ []) × (g.names ≡ [])

-- the word, and the options that stand with it, name this page
abbrev pub NamesPage : (terminal : ℕ) → (word : List ℕ) → Given → PageSaid → Type 0
NamesPage terminal word g (console form commands width) =
    (word ≡ form_word form) × (commands ≡ g.commands) × IsWidth terminal g.widths width × (g.deeps ≡ []) × (g.fragments ≡ []) × HasNoTitle g
NamesPage terminal word g (html extent commands title) =
    (word ≡ codes "html") × (commands ≡ g.commands) × (g.widths ≡ []) × (g.deeps ≡ []) × IsExtent g.fragments extent × IsTitle g title
NamesPage terminal word g (markdown commands depth) =
    (word ≡ codes "markdown") × (commands ≡ g.commands) × (g.widths ≡ []) × IsDepth g.deeps depth × (g.fragments ≡ []) × HasNoTitle g
NamesPage terminal word g (man commands depth title) =
    (word ≡ codes "man") × (commands ≡ g.commands) × (g.widths ≡ []) × IsDepth g.deeps depth × (g.fragments ≡ []) × IsTitle g title
NamesPage terminal word g (completion shell) = ⊥
NamesPage terminal word g in_json = ⊥
NamesPage terminal word g (differences text commands) = ⊥

abbrev pub shell_word : Shell → List ℕ
shell_word Bash = codes "bash"
shell_word Zsh = codes "zsh"
shell_word Fish = codes "fish"

-- What each form takes: the words after it, and its options.

abbrev pub HasNoOption : Given → Type 0
HasNoOption g = HasNoLevel g × HasNoTitle g × HasOnlyPageOptions g

abbrev pub IsPageOf : (terminal : ℕ) → (word : List ℕ) → (after : List (List ℕ)) → Given → PageSaid → (file : Option (List ℕ)) → Type 0
IsPageOf terminal word after g p file = (after ≡ option_to_list file) × NamesPage terminal word g p × HasOnlyPageOptions g

abbrev pub IsCheck : (after : List (List ℕ)) → Given → (is_strict : Bool) → (file : Option (List ℕ)) → Type 0
IsCheck after g is_strict file = (after ≡ option_to_list file) × HasNoLevel g × HasNoTitle g × (g.folders ≡ []) × (g.names ≡ []) × IsStrict g.stricts is_strict

abbrev pub IsAll : (after : List (List ℕ)) → Given → (folder : List ℕ) → TitleGiven → (file : Option (List ℕ)) → Type 0
IsAll after g folder title file = (after ≡ option_to_list file) × HasNoLevel g × IsTitle g title × (g.folders ≡ folder ∷ []) × (g.stricts ≡ []) × (g.names ≡ [])

abbrev pub IsComplete : (after : List (List ℕ)) → Given → Shell → (file : Option (List ℕ)) → Type 0
IsComplete after g shell file = (after ≡ shell_word shell ∷ option_to_list file) × HasNoOption g

abbrev pub IsJson : (after : List (List ℕ)) → Given → (file : Option (List ℕ)) → Type 0
IsJson after g file = (after ≡ option_to_list file) × HasNoOption g

abbrev pub IsDraft : (after : List (List ℕ)) → Given → (name file : Option (List ℕ)) → Type 0
IsDraft after g name file = (after ≡ option_to_list file) × HasNoLevel g × HasNoTitle g × (g.folders ≡ []) × (g.stricts ≡ []) × (g.names ≡ option_to_list name)

abbrev pub IsAgainst : (after : List (List ℕ)) → Given → (printed : List ℕ) → (commands : List (List ℕ)) → (file : Option (List ℕ)) → Type 0
IsAgainst after g printed commands file =
    (after ≡ printed ∷ option_to_list file) × (commands ≡ g.commands) × (g.widths ≡ []) × (g.deeps ≡ []) × (g.fragments ≡ []) × HasNoTitle g × HasOnlyPageOptions g

-- the word, those after it, and the options choose this work
abbrev pub Takes : (terminal : ℕ) → (word : List ℕ) → (after : List (List ℕ)) → Given → ChoiceSaid → Type 0
Takes terminal word after g (page (completion shell) file) = (word ≡ codes "complete") × IsComplete after g shell file
Takes terminal word after g (page in_json file) = (word ≡ codes "json") × IsJson after g file
Takes terminal word after g (page p file) = IsPageOf terminal word after g p file
Takes terminal word after g (check is_strict file) = (word ≡ codes "check") × IsCheck after g is_strict file
Takes terminal word after g (all folder title file) = (word ≡ codes "all") × IsAll after g folder title file
Takes terminal word after g (draft name file) = (word ≡ codes "draft") × IsDraft after g name file
Takes terminal word after g (against printed commands file) = (word ≡ codes "against") × IsAgainst after g printed commands file
Takes terminal word after g help = ⊥
Takes terminal word after g version = ⊥

-- the first word that stands for itself, and all after it: the others, and the files
pub record Split (words : List (List ℕ)) (word : List ℕ) (after : List (List ℕ)) (g : Given) : Type 0 where
  pub given : given_in words ≡ Some g
  pub plain : g.plain ++ g.files ≡ word ∷ after
  pub first : g.plain ≢ []

abbrev pub ChoosesWork : (terminal : ℕ) → (words : List (List ℕ)) → ChoiceSaid → Type 0
ChoosesWork terminal words choice = (word : List ℕ) × (after : List (List ℕ)) × (g : Given) × Split words word after g × Takes terminal word after g choice

-- one word, that is one of these
abbrev pub is_one_of : (words : List (List ℕ)) → (long short : List ℕ) → Bool
is_one_of (word ∷ []) long short = bytes_eq word long || bytes_eq word short
is_one_of words long short = false

-- on a terminal of that many columns
abbrev pub Chooses : (terminal : ℕ) → (words : List (List ℕ)) → ChoiceSaid → Type 0
Chooses terminal words help = is_one_of words (codes "--help") (codes "-h") ≡ true
Chooses terminal words version = is_one_of words (codes "--version") (codes "-V") ≡ true
Chooses terminal words choice = ChoosesWork terminal words choice
