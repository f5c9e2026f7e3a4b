-- The first chunk of a text, and the chunks after it.
use Rattle.std.specs.Prelude.{◌++◌, ◌==◌, ◌∷◌, ◌≡◌, ◌≢◌}
use Rattle.bpaf_doc.proofs.lemmas.Splitter.Words.{StripsPrefix, HasPrefixMatch, FindsTextPrefix, list_all, sym, ◌∙◌, ap, subst, arith, ℕ, Bool, true, false, IsTrue, List, [], codes, refl, length, MatchBool, None, starts_text, nat_tests}
use Rattle.bpaf_doc.specs.Splitter.Chunks.{Chunk, Raw, Paragraph, LineBreak, Form, Plain, Opening, Later, Spells, code_line, fence, before_code, paragraph, line_break, newline, blank, word, opening, later, closing, closing_paragraph, chunks_of, chunks_in, chunks_within, columns, code_weight, fence_weight, is_word_byte, starts, IsLine, IsLineEnd, IsWordEnd, IsPastNewline}
use Rattle.bpaf_doc.proofs.lemmas.Splitter.Spelling.{spells_in, only_in, starts_front}

-- ---- what the methods of a text say of its front

-- a text without its front
pub stripped : (front text rest : List ℕ) → StripsPrefix (FindsTextPrefix front) text rest → text ≡ front ++ rest
stripped front text rest h = h.1.1 ∙ ap (λ t. front ++ t) (sym h.2)

-- a text that is not this front and a rest does not begin with it
pub lacks_front : (front text : List ℕ) → ((rest : List ℕ) → text ≢ front ++ rest) → ¬ IsTrue (starts text front)
lacks_front front text h t = h _ (starts_front front text t)

-- what `starts_with` answered
pub begins : (r : Bool) (front text : List ℕ) → MatchBool r (HasPrefixMatch (FindsTextPrefix front) text) (FindsTextPrefix front text None) → r ≡ true → IsTrue (starts text front)
begins r front text h t = sym (starts_text r front text h) ∙ t

pub begins_not : (r : Bool) (front text : List ℕ) → MatchBool r (HasPrefixMatch (FindsTextPrefix front) text) (FindsTextPrefix front text None) → r ≡ false → ¬ IsTrue (starts text front)
begins_not r front text h f t = let e : r ≡ true = starts_text r front text h ∙ t in cc

-- ---- the first chunk

pub chunks_in-nil : (form : Form) → chunks_in form [] ≡ []
unfolding chunks_in chunks_within
chunks_in-nil form = refl

-- an empty text has no chunk left
pub nothing_left : (form : Form) (text : List ℕ) (left : List Chunk) → chunks_in form text ≡ left → IsTrue (length text == 0) → left ≡ []
nothing_left form [] left e h = sym e ∙ chunks_in-nil form
nothing_left form (b ∷ text) left e h = let none : length (b ∷ text) ≡ 0 = grind (arith, nat_tests) in absurd (omega arith)

pub chunks_of-plain : (text : List ℕ) → chunks_in Plain text ≡ chunks_of text
unfolding chunks_of
chunks_of-plain text = refl

-- what these are spelled by
spelt : (text : List ℕ) (left : List Chunk) → left ≡ chunks_of text → Spells Plain left text
spelt text left e = subst (λ chunks. Spells Plain chunks text) (chunks_of-plain text ∙ sym e) (spells_in Plain text)

first_is : {form : Form} {text : List ℕ} {chunks : List Chunk} → Spells form chunks text → chunks_in form text ≡ chunks
first_is {form} {text} {chunks} s = sym (only_in form chunks text s)

pub code_line_first : (text line rest : List ℕ) (left : List Chunk) → text ≡ codes "    " ++ (line ++ rest) → IsLine line → IsLineEnd rest → left ≡ chunks_of rest
    → chunks_in Plain (10 ∷ text) ≡ Raw line code_weight ∷ left
code_line_first text line rest left e l r s = first_is (code_line line rest left refl (ap (λ t. 10 ∷ t) e) l r (spelt rest left s))

pub fence_first : (text : List ℕ) → IsTrue (starts text (codes "```")) → chunks_in Plain (10 ∷ 10 ∷ text) ≡ Paragraph ∷ chunks_in Opening text
fence_first text t = first_is (fence text _ refl refl t (spells_in Opening text))

pub before_code_first : (text : List ℕ) (left : List Chunk) → IsTrue (starts text (codes "    ")) → left ≡ chunks_of (10 ∷ text) → chunks_in Plain (10 ∷ 10 ∷ text) ≡ Paragraph ∷ left
before_code_first text left t s = first_is (before_code (10 ∷ text) left refl refl t (spelt (10 ∷ text) left s))

pub paragraph_first : (text : List ℕ) (left : List Chunk) → ¬ IsTrue (starts text (codes "```")) → ¬ IsTrue (starts text (codes "    ")) → left ≡ chunks_of text
    → chunks_in Plain (10 ∷ 10 ∷ text) ≡ Paragraph ∷ left
paragraph_first text left f g s = first_is (paragraph text left refl refl f g (spelt text left s))

pub line_break_first : (text rest : List ℕ) (left : List Chunk) → text ≡ 32 ∷ rest → ¬ IsTrue (starts text (codes "    ")) → left ≡ chunks_of rest → chunks_in Plain (10 ∷ text) ≡ LineBreak ∷ left
line_break_first text rest left e f s =
    let g : ¬ IsTrue (starts (32 ∷ rest) (codes "    ")) = subst (λ t. ¬ IsTrue (starts t (codes "    "))) e f in
    first_is (line_break rest left refl (ap (λ t. 10 ∷ t) e) g (spelt rest left s))

pub newline_first : (text : List ℕ) (left : List Chunk) → ((rest : List ℕ) → text ≢ 10 ∷ rest) → ((rest : List ℕ) → text ≢ 32 ∷ rest) → left ≡ chunks_of text
    → chunks_in Plain (10 ∷ text) ≡ Raw (codes " ") 1 ∷ left
newline_first text left f g s = first_is (newline text left refl refl (lacks_front (codes "\n") text f) (lacks_front (codes " ") text g) (spelt text left s))

pub blank_first : (text rest : List ℕ) (left : List Chunk) → text ≡ 32 ∷ rest → left ≡ chunks_of rest → chunks_in Plain text ≡ Raw (codes " ") 1 ∷ left
blank_first text rest left e s = first_is (blank rest left refl e (spelt rest left s))

-- a text that begins with neither a newline nor a blank has a word in front
word_some : (bytes rest : List ℕ) → bytes ++ rest ≢ [] → ((back : List ℕ) → bytes ++ rest ≢ 10 ∷ back) → ((back : List ℕ) → bytes ++ rest ≢ 32 ∷ back) → IsWordEnd rest → bytes ≢ []
word_some bytes rest h1 h2 h3 h4 = grind arith

pub word_first : (text bytes rest : List ℕ) (weight : ℕ) (left : List Chunk) → text ≢ [] → ((back : List ℕ) → text ≢ 10 ∷ back) → ((back : List ℕ) → text ≢ 32 ∷ back)
    → text ≡ bytes ++ rest → IsTrue (list_all is_word_byte bytes) → IsWordEnd rest → weight ≡ columns bytes → left ≡ chunks_of rest
    → chunks_in Plain text ≡ Raw bytes weight ∷ left
word_first text bytes rest weight left some f g e w r c s =
    first_is (word bytes rest left (ap (λ n. Raw bytes n ∷ left) c) e (filled, w) r (spelt rest left s)) where
      filled : bytes ≢ []
      filled = word_some bytes rest (subst (λ t. t ≢ []) e some) (subst (λ t. (back : List ℕ) → t ≢ 10 ∷ back) e f) (subst (λ t. (back : List ℕ) → t ≢ 32 ∷ back) e g) r

pub opening_first : (text line rest next : List ℕ) → text ≢ [] → text ≡ line ++ rest → IsLine line → IsPastNewline rest next
    → chunks_in Opening text ≡ Raw line fence_weight ∷ chunks_in Later next
opening_first text line rest next some e l p = first_is (opening line rest next _ refl e some l p (spells_in Later next))

pub later_first : (text line rest next : List ℕ) → text ≢ [] → text ≡ line ++ rest → IsLine line → ¬ IsTrue (starts line (codes "```")) → IsPastNewline rest next
    → chunks_in Later text ≡ Raw line fence_weight ∷ chunks_in Later next
later_first text line rest next some e l f p = first_is (later line rest next _ refl e some l f p (spells_in Later next))

pub closing_first : (text line rest next : List ℕ) (left : List Chunk) → text ≡ line ++ rest → IsLine line → IsTrue (starts line (codes "```")) → ¬ IsTrue (starts rest (codes "\n\n"))
    → IsPastNewline rest next → left ≡ chunks_of next → chunks_in Later text ≡ Raw line fence_weight ∷ left
closing_first text line rest next left e l t f p s = first_is (closing line rest next left refl e l t f p (spelt next left s))

pub closing_paragraph_first : (text line rest : List ℕ) (left : List Chunk) → text ≡ line ++ rest → IsLine line → IsTrue (starts line (codes "```")) → IsTrue (starts rest (codes "\n\n"))
    → left ≡ chunks_of rest → chunks_in Later text ≡ Raw line fence_weight ∷ left
closing_paragraph_first text line rest left e l t f s = first_is (closing_paragraph line rest left refl e l t f (spelt rest left s))

pub ruleset plain_chunks = (chunks_of-plain)

pub ruleset after_newlines = (begins, begins_not, fence_first, before_code_first, paragraph_first)

pub ruleset later_lines = (begins, begins_not, later_first, closing_first, closing_paragraph_first)

pub ruleset plain_first = (blank_first, word_first)
