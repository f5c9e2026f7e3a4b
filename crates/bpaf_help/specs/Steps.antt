-- What the steps of the code leave.
use Rattle.std.specs.Prelude.{◌≡◌, ℕ, Bool, true, if◌then◌else◌, List, [], ◌∷◌, ◌++◌, codes}
use Rattle.bpaf_doc.specs.declared.buffer.Block.TheVariants as block
use Rattle.bpaf_doc.specs.Buffer.Writes.{Write, plain, inside, path_writes}
use Rattle.bpaf_meta.specs.Content.{Tree, Head, head}
use Rattle.bpaf_meta.specs.Meta.Misplaced.{IsWellPlaced, IsFirstMisplaced}
use Rattle.bpaf_meta.specs.Usage.Writes.{usage_writes}
use Rattle.bpaf_meta.specs.View.{leaf_of}
use Rattle.bpaf_items.specs.declared.meta_help.error.HelpError.{HelpError}
use Rattle.bpaf_items.specs.declared.meta_help.error.HelpError.TheVariants as error
use Rattle.bpaf_items.specs.Page.HelpPage.{doc_within}
use Rattle.bpaf_help.specs.Chapters.{Chapter, AreWellPlaced, manual_chapter, manual_name}

-- why there is no page of a tree: this is its first misplaced item, or an allocation failed after the check
abbrev pub IsErrorOf : {A : Type 0} → Tree → HelpError A → Type 0
IsErrorOf t (error.Memory e) = IsWellPlaced t
IsErrorOf t (error.Misplaced i) = IsFirstMisplaced t (leaf_of i.now)

-- why the pages of some chapters end: one of them has no page, and no item of those before it is misplaced
pub record EndsAtOne {A : Type 0} (chapters : List Chapter) (e : HelpError A) : Type 0 where
  pub front : List Chapter
  pub last : Chapter
  pub back : List Chapter
  pub order : chapters ≡ front ++ last ∷ back
  pub well_placed : AreWellPlaced front
  pub reason : IsErrorOf last.content e

-- the path over a chapter of the manual page
abbrev pub path_title : (many : Bool) → List (List ℕ) → List Write
path_title many path = if many then inside block.Header (path_writes path) else []

-- a chapter of the manual page, under its path where there are two chapters or more
abbrev pub manual_part : (app : List ℕ) → (many : Bool) → Chapter → List Write
manual_part app many c = path_title many c.path ++ manual_chapter app c.path c.content c.info

-- what a chapter has above its list: its name, its usage line and its header
abbrev pub manual_front : (app : List ℕ) → (path : List (List ℕ)) → Tree → Head → List Write
manual_front app path t (head descr header footer usage help) =
    manual_name app descr
    ++ inside block.Header (plain (codes "SYNOPSIS") ∷ []) ++ path_writes path ++ usage_writes true t
    ++ doc_within block.Block header
