-- Pages and usages, each with what is written for it.
use Rattle.std.specs.Prelude.{◌≡◌, List, [], ◌∷◌, None, codes}
use Rattle.std.proofs.Common.{refl}
use Rattle.page_model.specs.Content.{words, literal, value, paragraph, code, bullets, FormSaid, PartSaid, heading, usage, block, entries}
use Rattle.page_model.specs.declared.parts.Rank.TheVariants.{Section}
use Rattle.bpaf_doc.specs.Splitter.Chunks.{chunks_within, chunks_in, chunks_of}
use Rattle.std.specs.Str.{chars, trim_end, trim_start}
use Rattle.unicode_width.specs.Width.{past_emoji, step, str_width}
use lib.Utf8.{encode}
use Rattle.console_page.specs.Lines.{laid_out}
use Rattle.console_page.specs.Usage.{hanging}
use Rattle.console_page.specs.Page.{forms_text, page_text}

abbrev tide : List FormSaid
tide =
    record {
      name = codes "tide";
      items =
          (words (codes "[") ∷ literal (codes "-s") ∷ words (codes " ") ∷ value (codes "FOLDER") ∷ words (codes "]") ∷ [])
          ∷ (words (codes "[") ∷ literal (codes "-v") ∷ words (codes "]...") ∷ [])
          ∷ (words (codes "[") ∷ literal (codes "--color") ∷ words (codes "[=") ∷ value (codes "WHEN") ∷ words (codes "]]") ∷ [])
          ∷ (value (codes "COMMAND") ∷ words (codes " ...") ∷ [])
          ∷ [];
    }
    ∷ []

-- an item with bars in brackets
abbrev barred : List FormSaid
barred = record { name = codes "t"; items = (words (codes "[-a | {b | c} dd | e]") ∷ []) ∷ (words (codes "f") ∷ []) ∷ [] } ∷ []

pub usages :
    -- as many items as fit, and others under the first
    (forms_text 100 tide ≡ codes "tide [-s FOLDER] [-v]... [--color[=WHEN]] COMMAND ...\n")
    × (forms_text 40 tide ≡ codes "tide [-s FOLDER] [-v]...\n     [--color[=WHEN]] COMMAND ...\n")
    -- an item that is too wide is cut at its outermost bars, and then at blanks
    × (forms_text 40 barred ≡ codes "t [-a | {b | c} dd | e] f\n")
    × (forms_text 20 barred ≡ codes "t [-a | {b | c} dd |\n    e] f\n")
    × (forms_text 12 barred ≡ codes "t [-a | {b |\n    c} dd |\n    e] f\n")
    × (forms_text 9 barred ≡ codes "t [-a |\n    {b |\n    c} dd\n    | e]\n    f\n")
unfolding hanging str_width chars step past_emoji trim_end trim_start encode
usages = (refl, refl, refl, refl, refl, refl)

abbrev few : List PartSaid
few =
    block (paragraph ((words (codes "aa") ∷ literal (codes " bb") ∷ []) ∷ (words (codes "c") ∷ []) ∷ []))
    ∷ usage (record { name = codes "t"; items = (literal (codes "[-a]") ∷ []) ∷ [] } ∷ [])
    ∷ heading Section (codes "O")
    ∷ entries (record {
      word = [];
      target = None;
      terms = (literal (codes "-a") ∷ []) ∷ [];
      body = paragraph ((words (codes "p") ∷ []) ∷ []) ∷ bullets (((words (codes "i j") ∷ []) ∷ []) ∷ []) ∷ code (codes "\tc" ∷ [] ∷ codes "d" ∷ []) ∷ [];
    } ∷ [])
    ∷ []

abbrev two : List PartSaid
two =
    usage (record { name = codes "t"; items = (words (codes "a") ∷ []) ∷ [] } ∷ record { name = codes "t u"; items = (words (codes "b") ∷ []) ∷ (words (codes "c") ∷ []) ∷ [] } ∷ [])
    ∷ heading Section (codes "N")
    ∷ block (paragraph ((words (codes "aaa bbb") ∷ []) ∷ []))
    ∷ block (bullets (((words (codes "ccc ddd") ∷ []) ∷ []) ∷ []))
    ∷ heading Section (codes "O")
    ∷ entries (record { word = []; target = None; terms = (literal (codes "--all-of-them") ∷ []) ∷ (literal (codes "--each-and-every") ∷ []) ∷ []; body = paragraph ((words (codes "x y") ∷ []) ∷ []) ∷ [] }
    ∷ record { word = []; target = None; terms = (literal (codes "-b") ∷ []) ∷ []; body = paragraph ((words (codes "y") ∷ []) ∷ []) ∷ paragraph ((words (codes "z") ∷ []) ∷ []) ∷ [] }
    ∷ record { word = []; target = None; terms = (literal (codes "--c") ∷ []) ∷ []; body = [] } ∷ [])
    ∷ []

pub pages :
    -- nothing
    (page_text 80 (codes "Usage") [] ≡ [])
    -- a line break, a usage that does not fit, and an entry with each kind of block
    × (page_text 12 (codes "Usage") few ≡ codes "aa bb\nc\n\nUsage: t\n    [-a]\n\nO:\n    -a  p\n\n        - i\n          j\n\n            \tc\n\n            d\n")
    -- two forms, and terms that are too wide for the column, with what is said below one and beside it
    × (page_text 14 (codes "Usage") two ≡ codes "Usage: t a\n       t u b c\n\nN:\n    aaa bbb\n\n    - ccc ddd\n\nO:\n        --all-of-them, --each-and-every\n             x\n             y\n    -b       y\n\n             z\n\n        --c\n")
    × (page_text 44 (codes "Usage") two ≡ codes "Usage: t a\n       t u b c\n\nN:\n    aaa bbb\n\n    - ccc ddd\n\nO:\n        --all-of-them, --each-and-every  x y\n    -b       y\n\n             z\n\n        --c\n")
unfolding laid_out hanging chunks_of chunks_in chunks_within str_width chars step past_emoji trim_end encode
pages = (refl, refl, refl, refl)
