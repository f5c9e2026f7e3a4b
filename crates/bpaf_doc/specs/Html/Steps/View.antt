-- Fragments, styles and languages of the code, as the definitions name them.
use Rattle.std.specs.Prelude.{if◌then◌else◌, ◌&&◌, ◌++◌, ◌<◌, ◌∷◌, ◌≡◌, ◌≢◌}
use Rattle.bpaf_doc.specs.Words.{ℕ, Bool, ⊤, List, [], length, map, take, slice_index, flat_map, Option, MatchOption, Raw, chunks_of, code_weight, zero, suc, not, list_any, Style, Part, Text, Start as PartStart, End as PartEnd, Chunk, is_paragraph, is_inline}
use Rattle.bpaf_doc.specs.declared.html.Language.{Language}
use Rattle.bpaf_doc.specs.declared.html.Language.TheVariants as language
use Rattle.bpaf_doc.specs.declared.html.fragments.{Fragment.Fragment as Handed, Taken.Taken}
use Rattle.bpaf_doc.specs.declared.html.fragments.Fragment.TheVariants as handed
use Rattle.bpaf_doc.specs.declared.html.fragments.Taken.TheVariants as taken
use Rattle.bpaf_doc.specs.Splitter.Steps.{IsRun}
use Rattle.bpaf_doc.specs.Splitter.View.{chunk_of}
use Rattle.bpaf_doc.specs.Html.Fragments.{Fragment, TextStart, Shown, TextEnd, Hidden, Start, End, visible}
use Rattle.bpaf_doc.specs.Html.Page.{escaped_character}
use Rattle.bpaf_doc.specs.Markdown.Page.{escaped_character as markdown_character}

-- the fragment that was returned
abbrev pub fragment_of : Handed → Fragment
fragment_of (handed.TextStart style) = TextStart style
fragment_of (handed.Shown style chunk) = Shown style (chunk_of chunk)
fragment_of (handed.TextEnd style) = TextEnd style
fragment_of handed.Hidden = Hidden
fragment_of (handed.Start block) = Start block
fragment_of (handed.End block) = End block

-- the fragments that were returned at once: those of the chunks of a run, that of a code line, or another one
abbrev pub fragments_in : Taken → List Fragment
fragments_in (taken.Words style run) = map (Shown style) (chunks_of run.now)
fragments_in (taken.Code style line) = Shown style (Raw line.now code_weight) ∷ []
fragments_in (taken.One fragment) = fragment_of fragment ∷ []

-- what is returned as a run is one
abbrev pub IsTaken : Taken → Type 0
IsTaken (taken.Words style run) = IsRun run.now
IsTaken _ = ⊤

-- a call returned the first of the remaining fragments, and left the others, or returned None where none remained
abbrev pub YieldsTaken : List Fragment → Option Taken → List Fragment → Type 0
YieldsTaken before result after =
    MatchOption result ((before ≡ []) × (after ≡ [])) (λ x. IsTaken x × (before ≡ fragments_in x ++ after))

-- how a language writes a byte of a text
abbrev pub spelling_of : Language → ℕ → List ℕ
spelling_of language.Html byte = escaped_character byte
spelling_of language.Markdown byte = markdown_character byte

-- each of these bytes stays as it is
abbrev pub IsPlain : Language → List ℕ → Type 0
IsPlain language bytes = flat_map (spelling_of language) bytes ≡ bytes

-- the text is plain up to this place, where there is an ASCII character that is written differently
abbrev pub IsFirstSpelled : Language → List ℕ → ℕ → Type 0
IsFirstSpelled language text at =
    (at < length text) × IsPlain language (take at text) × (slice_index text at < 128)
    × (spelling_of language (slice_index text at) ≢ slice_index text at ∷ [])

-- the bytes if it is turned on, otherwise none
abbrev pub when : Bool → List ℕ → List ℕ
when on bytes = if on then bytes else []

-- ---- the walk

-- The fragments of a document as the code finds them: one part after another, with a number that says how deep hiding
-- is. This is internal: `shown_fragments` says what is meant, by looking back, and that this is the same is proved
-- (proofs/lemmas/Html/Fragments/Walking).

-- in brief a paragraph break begins to hide
abbrev pub depth_after_text : Bool → List Chunk → ℕ
depth_after_text full chunks = if (not full && list_any is_paragraph chunks) then 1 else 0

-- How deep hiding is after a part: 0 where texts are shown, otherwise how many ends of inline blocks have to come, less
-- the starts between.
abbrev pub depth_after : Bool → Part → ℕ → ℕ
depth_after full (Text bytes style) zero = depth_after_text full (chunks_of bytes)
depth_after full (Text bytes style) (suc depth) = suc depth
depth_after full (PartStart b) zero = zero
depth_after full (PartStart b) (suc depth) = if is_inline b then suc (suc depth) else suc depth
depth_after full (PartEnd b) zero = zero
depth_after full (PartEnd b) (suc depth) = if is_inline b then depth else suc depth

-- the rest of a text that was begun
abbrev pub text_rest : Bool → Style → List Chunk → List Fragment
text_rest full style chunks = map (Shown style) (visible full chunks) ++ TextEnd style ∷ []

abbrev pub part_walk : Bool → Part → ℕ → List Fragment
part_walk full (Text bytes style) zero = TextStart style ∷ text_rest full style (chunks_of bytes)
part_walk full (Text bytes style) (suc depth) = Hidden ∷ []
part_walk full (PartStart b) depth = Start b ∷ []
part_walk full (PartEnd b) depth = End b ∷ []

-- the fragments of the remaining parts
abbrev pub walk : Bool → ℕ → List Part → List Fragment
walk full depth [] = []
walk full depth (part ∷ parts) = part_walk full part depth ++ walk full (depth_after full part depth) parts
