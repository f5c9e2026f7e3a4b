-- The content of an entry of a list, a key, a map of texts and an answer.
use Rattle.bpaf_items.specs.Words.{[], Result, Ok, Err, Bor, option_copied, any, positional, command, flag, argument, name_of, text_of, leaf_of, tree_of, head_of}
use Rattle.bpaf_items.specs.declared.meta_help.entry.HelpItem.{HelpItem}
use Rattle.bpaf_items.specs.declared.meta_help.entry.HelpItem.TheVariants as entry
use Rattle.bpaf_items.specs.declared.meta_help.key.ItemKey.{ItemKey}
use Rattle.bpaf_items.specs.declared.meta_help.key.ItemKey.TheVariants as key
use Rattle.bpaf_items.specs.declared.meta_help.error.HelpError.{HelpError}
use Rattle.bpaf_items.specs.declared.meta_help.error.HelpError.TheVariants as error
use Rattle.bpaf_items.specs.Listing.ItemList.{Entry, listed, note, group_start, group_end, adjacent_start, adjacent_stop}
use Rattle.bpaf_items.specs.Listing.Keys.{Key, any_key, word_key, flag_key, argument_key}
use Rattle.bpaf_items.specs.Page.PageAnswers.{Answer, page, misplaced, memory}

-- the entry that a `HelpItem` is, with an empty list of short names
abbrev pub entry_of : {A : Type 0} → HelpItem A → Entry
entry_of (entry.DecorSuffix h k) = note h.now k
entry_of (entry.GroupStart h k) = group_start h.now k
entry_of (entry.GroupEnd k) = group_end k
entry_of (entry.Any m a h) = listed (any m.now a (option_copied h))
entry_of (entry.Positional m h) = listed (positional m.0.now (option_copied h))
entry_of (entry.Command n c h t i) = listed (command n.now c (option_copied h) (tree_of t.now) (head_of i.now))
entry_of (entry.Flag n e h) = listed (flag (name_of n) [] (text_of e) (option_copied h))
entry_of (entry.Argument n m e h) = listed (argument (name_of n) [] m.0.now (text_of e) (option_copied h))
entry_of (entry.AdjacentStart t k) = adjacent_start (tree_of t.now) k
entry_of (entry.AdjacentStop k) = adjacent_stop k

-- an entry that is borrowed from a list
abbrev pub entry_at : {A : Type 0} → Bor (HelpItem A) → Entry
entry_at e = entry_of e.now

-- an `ItemKey`
abbrev pub key_in : {A : Type 0} → ItemKey A → Key
key_in (key.Any m h) = any_key m.now (option_copied h)
key_in (key.Word w h) = word_key w.now (option_copied h)
key_in (key.Flag n h) = flag_key (name_of n) (option_copied h)
key_in (key.Argument n m h) = argument_key (name_of n) m.0.now (option_copied h)

-- what a call for a page returns
abbrev pub answer_of : {X A : Type 0} → Result X (HelpError A) → Answer X
answer_of (Ok x) = page x
answer_of (Err (error.Memory e)) = memory
answer_of (Err (error.Misplaced i)) = misplaced (leaf_of i.now)
