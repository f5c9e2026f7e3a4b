-- What is written into a well-nested document leaves it well nested.
use Rattle.std.specs.Prelude.{if◌then◌else◌, ◌++◌, ◌∷◌, ◌≡◌}
use Rattle.bpaf_doc.proofs.lemmas.Buffer.Words.{rules, arith, ℕ, Bool, true, false, List, [], map, sym, refl, ap, ◌∙◌, append_assoc, append-nil, subst, Bor, list_any, before_first, after_first, fold-append, Style, leading_texts, Part, Text, Start, End, IsWellNested, nothing, text, enclosed, joined, Write, document_of, emphasis, inside, is_newline, pair_write, path_writes, plain, same_style, title_writes, titled, with_text, with_write, with_writes, IsUtf8-encode}
use Rattle.bpaf_doc.specs.declared.buffer.Style.TheVariants as style
use Rattle.bpaf_doc.specs.declared.buffer.Block.{Block}
use Rattle.bpaf_doc.specs.declared.buffer.Block.TheVariants as block
use Rattle.bpaf_doc.specs.Buffer.Writes as write
use Rattle.bpaf_doc.proofs.lemmas.Buffer.Ends.{AreEnds-with_text_end, parts_from-with_text_end}
use Rattle.bpaf_doc.proofs.lemmas.Buffer.Growing.{settled_nested}

-- a text leaves all parts but the last one
pub with_text-append : (ps : List Part) (q : Part) (qs : List Part) (bytes : List ℕ) (style : Style) → with_text (ps ++ q ∷ qs) bytes style ≡ ps ++ with_text (q ∷ qs) bytes style
with_text-append (p ∷ p' ∷ ps) q qs bytes style = ap (λ rs. p ∷ rs) (with_text-append (p' ∷ ps) q qs bytes style)
with_text-append x q qs bytes style = grind arith

one_or_two : (b : Bool) (before bytes : List ℕ) (kind style : Style) → IsWellNested (if b then Text (before ++ bytes) style ∷ [] else Text before kind ∷ Text bytes style ∷ [])
one_or_two true before bytes kind style = text (before ++ bytes) style refl
one_or_two false before bytes kind style = joined (Text before kind ∷ []) (Text bytes style ∷ []) refl (text before kind refl) (text bytes style refl)

pub IsWellNested-with_text : (bytes : List ℕ) (style : Style) {ps : List Part} → IsWellNested ps → IsWellNested (with_text ps bytes style)
IsWellNested-with_text bytes style (nothing is) = rw is (text bytes style refl)
IsWellNested-with_text bytes style (text before kind is) = rw is (one_or_two (same_style kind style) before bytes kind style)
IsWellNested-with_text bytes style {ps} (enclosed b inner is nested) =
    let block = Start b ∷ (inner ++ End b ∷ []) in
    rw is
    (subst IsWellNested (sym (with_text-append (Start b ∷ inner) (End b) [] bytes style))
    (joined block (Text bytes style ∷ []) (sym (append_assoc (Start b ∷ inner) (End b ∷ []) (Text bytes style ∷ []))) (enclosed b inner refl nested) (text bytes style refl)))
IsWellNested-with_text bytes style (joined front [] is nested empty) = rw (is, append-nil front) (IsWellNested-with_text bytes style nested)
IsWellNested-with_text bytes style (joined front (q ∷ qs) is nested also) = grind (arith, IsWellNested-with_text bytes style also, joined, with_text-append)

-- parts in a block, as they are written: its start, what it holds, its end
pub IsWellNested-in_block : (b : Block) (ps inner : List Part) → IsWellNested ps → IsWellNested inner → IsWellNested (((ps ++ Start b ∷ []) ++ inner) ++ End b ∷ [])
IsWellNested-in_block b ps inner nested also = search (rules, joined, append_assoc, enclosed)

-- ---- writes between the marks of a block

-- a start joins no text, so what is written after it does not depend on what stands before
module _ (ps : List Part) (b : Block) where
  with_writes-after_start : (qs : List Part) (ws : List Write) → with_writes ((ps ++ Start b ∷ []) ++ qs) ws ≡ (ps ++ Start b ∷ []) ++ with_writes qs ws
  with_writes-after_start qs [] = refl
  with_writes-after_start qs (w ∷ ws) = grind (arith, with_writes-after_start (with_write qs w) ws, append-nil, with_text-append, append_assoc)

  -- the start, the document that was written between, the end
  pub with_writes-inside : (ws : List Write) → with_writes ps (inside b ws) ≡ ((ps ++ Start b ∷ []) ++ document_of ws) ++ End b ∷ []
  with_writes-inside ws = grind (arith, fold-append with_write (ps ++ Start b ∷ []) ws (write.end b ∷ []), append-nil (ps ++ Start b ∷ []), with_writes-after_start)

pub IsWellNested-inside : (b : Block) (ps : List Part) (ws : List Write) → IsWellNested ps → IsWellNested (document_of ws) → IsWellNested (with_writes ps (inside b ws))
IsWellNested-inside b ps ws nested also = rw (with_writes-inside ps b ws) (IsWellNested-in_block b ps (document_of ws) nested also)

-- ---- the other calls

-- what follows a first text
IsWellNested-after_text : {qs : List Part} → IsWellNested qs → (bytes : List ℕ) (style : Style) (ps : List Part) → qs ≡ Text bytes style ∷ ps → IsWellNested ps
IsWellNested-after_text (nothing none) bytes style ps is = let e : [] ≡ Text bytes style ∷ ps = sym none ∙ is in cc
IsWellNested-after_text (text before kind one) bytes style ps is = let e : Text before kind ∷ [] ≡ Text bytes style ∷ ps = sym one ∙ is in let f : ps ≡ [] = cc in nothing f
IsWellNested-after_text (enclosed b inner block nested) bytes style ps is = let e : Start b ∷ (inner ++ End b ∷ []) ≡ Text bytes style ∷ ps = sym block ∙ is in cc
IsWellNested-after_text (joined [] back both nested also) bytes style ps is = IsWellNested-after_text also bytes style ps (sym both ∙ is)
IsWellNested-after_text (joined (Text before kind ∷ front) back both nested also) bytes style ps is =
    grind (arith, IsWellNested-after_text nested before kind front refl, joined)
IsWellNested-after_text (joined (Start b ∷ front) back both nested also) bytes style ps is = let e : Start b ∷ (front ++ back) ≡ Text bytes style ∷ ps = sym both ∙ is in cc
IsWellNested-after_text (joined (End b ∷ front) back both nested also) bytes style ps is = let e : End b ∷ (front ++ back) ≡ Text bytes style ∷ ps = sym both ∙ is in cc

IsWellNested-title : (bytes : List ℕ) (others : List Part) → IsWellNested others → IsWellNested (document_of (title_writes bytes others))
IsWellNested-title bytes others nested = either (list_any is_newline bytes) where
  either : (some : Bool)
      → IsWellNested (document_of (if some then emphasis (before_first is_newline bytes) ∷ inside block.Section3 (plain (after_first is_newline bytes) ∷ write.parts others ∷ []) else emphasis bytes ∷ write.parts others ∷ []))
  either true =
      IsWellNested-inside block.Section3 (Text (before_first is_newline bytes) style.Emphasis ∷ []) (plain (after_first is_newline bytes) ∷ write.parts others ∷ []) (text (before_first is_newline bytes) style.Emphasis refl)
      (joined (Text (after_first is_newline bytes) style.Text ∷ []) others refl (text (after_first is_newline bytes) style.Text refl) nested)
  either false = joined (Text bytes style.Emphasis ∷ []) others refl (text bytes style.Emphasis refl) nested

pub IsWellNested-em_doc : (ps d : List Part) → IsWellNested ps → IsWellNested d → IsWellNested (with_writes ps (inside block.InlineBlock (titled d)))
IsWellNested-em_doc ps d nested also = grind (arith, IsWellNested-inside, IsWellNested-title, IsWellNested-after_text)

pub IsWellNested-path : (names : List (List ℕ)) (ps : List Part) → IsWellNested ps → IsWellNested (with_writes ps (path_writes names))
IsWellNested-path [] ps nested = nested
IsWellNested-path (name ∷ names) ps nested = grind (arith, IsWellNested-path names (with_text (with_text ps name style.Literal) (32 ∷ []) style.Text), IsWellNested-with_text)

pub IsWellNested-pairs : (pairs : List (Bor (List ℕ) × Style)) (ps : List Part) → IsWellNested ps → IsWellNested (with_writes ps (map pair_write pairs))
IsWellNested-pairs [] ps nested = nested
IsWellNested-pairs (pair ∷ pairs) ps nested = IsWellNested-pairs pairs (with_text ps pair.0.now pair.1) (IsWellNested-with_text pair.0.now pair.1 nested)

line_and_others : (some : Bool) (front bytes : List ℕ) (style : Style) (others : List Part) → IsWellNested others → IsWellNested (if some then Text front style ∷ [] else Text bytes style ∷ others)
line_and_others true front bytes style others nested = text front style refl
line_and_others false front bytes style others nested = joined (Text bytes style ∷ []) others refl (text bytes style refl) nested

pub IsWellNested-leading_texts : (ps : List Part) → IsWellNested (leading_texts ps)
IsWellNested-leading_texts (Text bytes style ∷ ps) = line_and_others (list_any is_newline bytes) (before_first is_newline bytes) bytes style (leading_texts ps) (IsWellNested-leading_texts ps)
IsWellNested-leading_texts _ = nothing refl

pub ruleset text_pushed = (IsUtf8-encode, AreEnds-with_text_end, parts_from-with_text_end, IsWellNested-with_text)

pub ruleset nested_parts = (settled_nested, IsWellNested-in_block, IsWellNested-em_doc, IsWellNested-path)

pub ruleset nested_front = (IsWellNested-leading_texts)
