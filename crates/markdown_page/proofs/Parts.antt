-- Parts of a page, the first one and the others.
use Rattle.std.proofs.Common.{◌≡◌, ℕ, Bool, List, [], ◌∷◌, ◌++◌, map, refl, sym, ap, ◌∙◌, append_assoc}
use Rattle.std.specs.Prelude.{flat_map, codes, if◌then◌else◌, Result, Ok, Err, OnOk, is_ok}
use Rattle.page_model.specs.Content.{Line, BlockSaid, paragraph, code, bullets, FormSaid}
use Rattle.markdown_page.specs.Exact.{block_text, body_text, code_line, code_text, further_line, leading_span, leading_text, line_text, lines_text, longest_of, span_text, written}
use Rattle.markdown_page.specs.Steps.{fence_of, first_block, form_line, shown_span, written_line}
use Rattle.markdown_page.specs.Kept.{form_bytes, shown_byte}
use Rattle.markdown_page.proofs.Pieces.{shown_definition}

written_lines : (level : ℕ) (lines : List Line) → flat_map (written_line level) lines ≡ flat_map (further_line level) (map written lines)
written_lines level [] = refl
written_lines level (line ∷ lines) = ap (λ x. written_line level line ++ x) (written_lines level lines)

lines_joined : (level : ℕ) (out line first mid new : List ℕ) (lines : List Line) → first ≡ out ++ line_text line → mid ≡ first ++ flat_map (written_line level) lines → new ≡ mid ++ codes "\n" → new ≡ out ++ lines_text level line (map written lines)
lines_joined level out line first mid new lines f m n =
    n
    ∙ ap (λ x. x ++ codes "\n") (m ∙ ap (λ x. x ++ flat_map (written_line level) lines) f ∙ ap (λ x. (out ++ line_text line) ++ x) (written_lines level lines))
    ∙ (let regroup : ((out ++ line_text line) ++ flat_map (further_line level) (map written lines)) ++ codes "\n" ≡ out ++ (line_text line ++ (flat_map (further_line level) (map written lines) ++ codes "\n")) = simp append_assoc in regroup)

-- the last of them may fail
pub lines_written : {T E : Type 0} (r : Result T E) (level : ℕ) (out line first mid new : List ℕ) (lines : List Line) → first ≡ out ++ line_text line → mid ≡ first ++ flat_map (written_line level) lines → new ≡ (if is_ok r then mid ++ codes "\n" else mid)
    → OnOk r (new ≡ out ++ lines_text level line (map written lines))
lines_written (Ok v) level out line first mid new lines f m n = lines_joined level out line first mid new lines f m n
lines_written (Err e) level out line first mid new lines f m n = tt

pub form_lines : (forms : List FormSaid) → flat_map form_line forms ≡ flat_map (code_line 0) (map form_bytes forms)
form_lines [] = refl
form_lines (form ∷ forms) = ap (λ x. form_line form ++ x) (form_lines forms)

pub body_first : (terms : List ℕ) (first : BlockSaid) (blocks : List BlockSaid) → body_text terms (first ∷ blocks) ≡ first_block terms first ++ flat_map (block_text 1) blocks
body_first terms (paragraph []) blocks = refl
body_first terms (paragraph (line ∷ lines)) blocks = refl
body_first terms (code lines) blocks = sym (append_assoc (lines_text 1 terms []) (block_text 1 (code lines)) (flat_map (block_text 1) blocks))
body_first terms (bullets items) blocks = sym (append_assoc (lines_text 1 terms []) (block_text 1 (bullets items)) (flat_map (block_text 1) blocks))

-- a term that leads somewhere, by what is shown of it
pub leading_is : (address text : List ℕ) → shown_span address (map shown_byte text) ≡ leading_span address text
leading_is address [] = refl
leading_is address (b ∷ text) =
    ap (λ (x : Bool). if x then span_text (map shown_byte (b ∷ text)) else leading_text address (span_text (map shown_byte (b ∷ text)))) (shown_definition (b ∷ text))

regroup : (a b c d e : List ℕ) → (((a ++ b) ++ c) ++ d) ++ e ≡ a ++ (b ++ (c ++ (d ++ e)))
regroup a b c d e = simp append_assoc

pub in_fences : (out first second third new : List ℕ) (forms : List FormSaid) (more : ℕ) → more ≡ longest_of (map form_bytes forms) → first ≡ out ++ codes "\n" → second ≡ first ++ fence_of 0 more → third ≡ second ++ flat_map form_line forms → new ≡ third ++ fence_of 0 more
    → new ≡ out ++ code_text 0 (map form_bytes forms)
in_fences out first second third new forms more m f s t n =
    let fence : List ℕ = fence_of 0 more in
    n
    ∙ ap (λ x. x ++ fence) (t ∙ ap (λ x. x ++ flat_map form_line forms) (s ∙ ap (λ x. x ++ fence) f) ∙ ap (λ x. ((out ++ codes "\n") ++ fence) ++ x) (form_lines forms))
    ∙ regroup out (codes "\n") fence (flat_map (code_line 0) (map form_bytes forms)) fence
    ∙ ap (λ x. out ++ (codes "\n" ++ (fence_of 0 x ++ (flat_map (code_line 0) (map form_bytes forms) ++ fence_of 0 x)))) m
