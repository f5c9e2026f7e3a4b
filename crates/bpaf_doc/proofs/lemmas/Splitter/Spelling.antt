-- Each text is spelled by its chunks, and by no other list.
use Rattle.std.specs.Prelude.{◌&&◌, ◌++◌, ◌+◌, ◌<◌, ◌==◌, ◌∷◌, ◌≡◌, ◌≢◌, ◌≤◌}
use Rattle.bpaf_doc.proofs.lemmas.Splitter.Words.{list_all, prefix_len, sym, ◌∙◌, ap, subst, inl, inr, arith, take-append-drop, length-drop, length-append, ℕ, zero, suc, Bool, true, false, IsTrue, List, [], codes, refl, length, drop, take_while, take_while-cons, nat_tests, eqb-true, cases_Bool}
use Rattle.bpaf_doc.specs.Splitter.Chunks.{Chunk, Raw, Paragraph, LineBreak, Form, Plain, Opening, Later, Spells, nothing, code_line, fence, before_code, paragraph, line_break, newline, blank, word, opening, later, closing, closing_paragraph, chunks_of, chunks_within, columns, code_weight, fence_weight, is_line_byte, is_word_byte, without_front, starts, IsLine, IsWord, IsLineEnd, IsWordEnd, IsPastNewline, chunks_in}

pub and_left : (a b : Bool) → IsTrue (a && b) → IsTrue a
and_left a b h = grind arith

pub and_right : (a b : Bool) → IsTrue (a && b) → IsTrue b
and_right a b h = grind arith

not_true : (b : Bool) → b ≡ false → ¬ IsTrue b
not_true b h t = cc

-- a text with this front is the front and the rest
pub starts_front : (front text : List ℕ) → IsTrue (starts text front) → text ≡ front ++ drop (length front) text
starts_front (f ∷ front) (t ∷ text) h = grind (arith, starts_front front text, and_left, and_right, nat_tests)
starts_front x y h = grind arith

-- the bytes from the front on that pass a test, and the others
front_split : (test : ℕ → Bool) (bytes : List ℕ) → bytes ≡ take_while test bytes ++ without_front test bytes
front_split test bytes = sym (take-append-drop (prefix_len test bytes) bytes)

take_while_true : (test : ℕ → Bool) (b : ℕ) (bytes : List ℕ) → test b ≡ true → take_while test (b ∷ bytes) ≡ b ∷ take_while test bytes
take_while_true test b bytes e = rw (take_while-cons test b bytes, e) refl

take_while_false : (test : ℕ → Bool) (b : ℕ) (bytes : List ℕ) → test b ≡ false → take_while test (b ∷ bytes) ≡ []
take_while_false test b bytes e = rw (take_while-cons test b bytes, e) refl

drop_more : (k b : ℕ) (bytes : List ℕ) → drop (1 + k) (b ∷ bytes) ≡ drop k bytes
drop_more k b bytes = let e : 1 + k ≡ suc k = omega arith in rw e refl

length_without : (test : ℕ → Bool) (bytes : List ℕ) → length (without_front test bytes) ≤ length bytes
length_without test bytes = rw (length-drop (prefix_len test bytes) bytes) (omega arith)

front_passes : (test : ℕ → Bool) (bytes : List ℕ) → IsTrue (list_all test (take_while test bytes))
front_passes test [] = refl
front_passes test (b ∷ bytes) = elim (cases_Bool (test b)) [ inl e ↦ rw (take_while_true test b bytes e, e) (front_passes test bytes) | inr e ↦ rw (take_while_false test b bytes e) refl ]

line_end : (bytes : List ℕ) → IsLineEnd (without_front is_line_byte bytes)
line_end [] = tt
line_end (b ∷ bytes) = grind (arith, line_end bytes, cases_Bool, drop_more, nat_tests)

word_end : (bytes : List ℕ) → IsWordEnd (without_front is_word_byte bytes)
word_end [] = tt
word_end (b ∷ bytes) = grind (arith, word_end bytes, cases_Bool, drop_more, nat_tests)

past_newline : (rest : List ℕ) → IsLineEnd rest → IsPastNewline rest (drop 1 rest)
past_newline rest h = grind arith

-- the line in front begins with three backquotes if the text does, and only then
line_ticks : (text : List ℕ) → IsTrue (starts text (codes "```")) → IsTrue (starts (take_while is_line_byte text) (codes "```"))
line_ticks text t = grind (arith, starts_front, take_while_true is_line_byte 96 (96 ∷ 96 ∷ drop 3 text) refl, take_while_true is_line_byte 96 (96 ∷ drop 3 text) refl, take_while_true is_line_byte 96 (drop 3 text) refl)

text_ticks : (text line rest : List ℕ) → text ≡ line ++ rest → IsTrue (starts line (codes "```")) → IsTrue (starts text (codes "```"))
text_ticks text line rest e t = grind (arith, starts_front)

-- ---- uniqueness

take_while_append : (test : ℕ → Bool) (front rest : List ℕ) → IsTrue (list_all test front) → (take_while test rest ≡ []) → take_while test (front ++ rest) ≡ front
take_while_append test [] rest h e = e
take_while_append test (b ∷ front) rest h e = grind (arith, take_while_append test front rest, take_while_true, and_left, and_right)

without_append : (test : ℕ → Bool) (front rest : List ℕ) → IsTrue (list_all test front) → (without_front test rest ≡ rest) → without_front test (front ++ rest) ≡ rest
without_append test [] rest h e = e
without_append test (b ∷ front) rest h e = grind (arith, without_append test front rest, drop_more, and_left, and_right)

line_stops : (rest : List ℕ) → IsLineEnd rest → (take_while is_line_byte rest ≡ []) × (without_front is_line_byte rest ≡ rest)
line_stops rest h = grind (arith, take_while_false)

next_len : (text line rest next : List ℕ) (n : ℕ) → text ≡ line ++ rest → IsPastNewline rest next → length text ≤ suc n → length next ≤ n
next_len text line rest next n h1 h2 h3 = grind (arith, length-append)

rest_len : (text front rest : List ℕ) (n : ℕ) → text ≡ front ++ rest → 0 < length front → length text ≤ suc n → length rest ≤ n
rest_len text front rest n e some h = grind (arith, length-append)

empty_len : (text : List ℕ) → length text ≤ 0 → text ≢ [] → ⊥
empty_len [] h e = e refl
empty_len (b ∷ text) h e = omega arith

ticks_some : (text line rest : List ℕ) → text ≡ line ++ rest → IsTrue (starts line (codes "```")) → text ≢ []
ticks_some text line rest e t none = let h : IsTrue (starts [] (codes "```")) = subst (λ xs. IsTrue (starts xs (codes "```"))) none (text_ticks text line rest e t) in cc

-- a text that begins with a line and its end
line_of : (text line rest : List ℕ) → text ≡ line ++ rest → IsLine line → IsLineEnd rest → take_while is_line_byte text ≡ line
line_of text line rest e l r = ap (λ xs. take_while is_line_byte xs) e ∙ take_while_append is_line_byte line rest l (line_stops rest r).0

rest_of : (text line rest : List ℕ) → text ≡ line ++ rest → IsLine line → IsLineEnd rest → without_front is_line_byte text ≡ rest
rest_of text line rest e l r = ap (λ xs. without_front is_line_byte xs) e ∙ without_append is_line_byte line rest l (line_stops rest r).1

opening_is : (n : ℕ) (text : List ℕ) → text ≢ [] → chunks_within (suc n) Opening text ≡ Raw (take_while is_line_byte text) fence_weight ∷ chunks_within n Later (drop 1 (without_front is_line_byte text))
unfolding chunks_within
opening_is n text h = grind arith

later_is : (n : ℕ) (text : List ℕ) → text ≢ [] → starts text (codes "```") ≡ false
    → chunks_within (suc n) Later text ≡ Raw (take_while is_line_byte text) fence_weight ∷ chunks_within n Later (drop 1 (without_front is_line_byte text))
unfolding chunks_within
later_is n text h1 h2 = grind arith

closing_is : (n : ℕ) (text : List ℕ) → text ≢ [] → starts text (codes "```") ≡ true → starts (without_front is_line_byte text) (codes "\n\n") ≡ false
    → chunks_within (suc n) Later text ≡ Raw (take_while is_line_byte text) fence_weight ∷ chunks_within n Plain (drop 1 (without_front is_line_byte text))
unfolding chunks_within
closing_is n text h1 h2 h3 = grind arith

closing_paragraph_is : (n : ℕ) (text : List ℕ) → text ≢ [] → starts text (codes "```") ≡ true → starts (without_front is_line_byte text) (codes "\n\n") ≡ true
    → chunks_within (suc n) Later text ≡ Raw (take_while is_line_byte text) fence_weight ∷ chunks_within n Plain (without_front is_line_byte text)
unfolding chunks_within
closing_paragraph_is n text h1 h2 h3 = grind arith

-- the same list, from a line, a rest and the chunks of the rest
joined : (n : ℕ) (form : Form) (line other_line next other_next : List ℕ) (others : List Chunk) → other_line ≡ line → other_next ≡ next → others ≡ chunks_within n form next
    → Raw line fence_weight ∷ others ≡ Raw other_line fence_weight ∷ chunks_within n form other_next
joined n form line other_line next other_next others a b c = grind arith

some_len : (bytes : List ℕ) → bytes ≢ [] → 0 < length bytes
some_len [] e = absurd (e refl)
some_len (b ∷ bytes) e = omega arith

word_is : (n : ℕ) (bytes rest : List ℕ) (others : List Chunk) → IsWord bytes → IsWordEnd rest → others ≡ chunks_within n Plain rest
    → Raw bytes (columns bytes) ∷ others ≡ chunks_within (suc n) Plain (bytes ++ rest)
unfolding chunks_within
word_is n [] rest others w r e = absurd (w.0 refl)
word_is n (b ∷ bytes) rest others w r e =
    grind (arith, take_while_append is_word_byte (b ∷ bytes) rest w.1, take_while_false, without_append is_word_byte (b ∷ bytes) rest w.1, and_right)

nothing_spelled : {form : Form} {chunks : List Chunk} {text : List ℕ} → Spells form chunks text → length text ≤ 0 → chunks ≡ []
nothing_spelled s h = grind (arith, length-append, empty_len, ticks_some, some_len)

unique : {form : Form} {chunks : List Chunk} {text : List ℕ} → Spells form chunks text → (n : ℕ) → length text ≤ n → chunks ≡ chunks_within n form text
unfolding chunks_within
unique s zero h = nothing_spelled s h
unique {form} {chunks} {text} (nothing ec et) (suc n) h = ec ∙ ap (λ t. chunks_within (suc n) form t) (sym et)
unique {chunks = chunks} {text = text} (code_line line rest others ec et il ir s) (suc n) h = grind (arith, unique s n, line_of, rest_of, rest_len, length-append)
unique {text = text} (fence rest others ec et t s) (suc n) h = grind (arith, unique s n, rest_len)
unique {text = text} (before_code rest others ec et t s) (suc n) h = grind (arith, unique s n, rest_len, starts_front)
unique {text = text} (paragraph rest others ec et t f s) (suc n) h = grind (arith, unique s n, rest_len)
unique {text = text} (line_break rest others ec et t s) (suc n) h = grind (arith, unique s n, rest_len)
unique {text = text} (newline rest others ec et t f s) (suc n) h = grind (arith, unique s n, rest_len, starts_front)
unique {text = text} (blank rest others ec et s) (suc n) h = grind (arith, unique s n, rest_len)
unique {text = text} (word bytes rest others ec et w r s) (suc n) h =
    ec ∙ word_is n bytes rest others w r (unique s n (rest_len text bytes rest n et (some_len bytes w.0) h)) ∙ ap (λ t. chunks_within (suc n) Plain t) (sym et)
unique {text = text} (opening line rest next others ec et some il p s) (suc n) h = grind (arith, unique s n (next_len text line rest next n et p h), line_of, rest_of, next_len, opening_is)
unique {text = text} (later line rest next others ec et some il t p s) (suc n) h = grind (arith, unique s n (next_len text line rest next n et p h), line_of, rest_of, next_len, later_is, line_ticks)
unique {text = text} (closing line rest next others ec et il t f p s) (suc n) h = grind (arith, unique s n (next_len text line rest next n et p h), line_of, rest_of, next_len, closing_is, ticks_some, text_ticks)
unique {text = text} (closing_paragraph line rest others ec et il t f s) (suc n) h =
    grind (arith, unique s n (rest_len text line rest n et (grind arith) h), joined, line_of, rest_of, rest_len, closing_paragraph_is, ticks_some, text_ticks, starts_front)

-- ---- existence

abbrev SpelledTo : ℕ → Type 0
SpelledTo n = (form : Form) (text : List ℕ) → length text ≤ n → (chunks : List Chunk) × Spells form chunks text

length_dropped : (k n : ℕ) (rest : List ℕ) → length rest ≤ n → length (drop k rest) ≤ n
length_dropped k n rest h = rw (length-drop k rest) (omega arith)

module _ (n : ℕ) (ih : SpelledTo n) where
  from_newline : (rest : List ℕ) → length rest ≤ n → (chunks : List Chunk) × Spells Plain chunks (10 ∷ rest)
  from_newline rest h = elim (cases_Bool (starts rest (codes "    "))) [
    | inl f ↦
        let line : List ℕ = take_while is_line_byte (drop 4 rest) in
        let back : List ℕ = without_front is_line_byte (drop 4 rest) in
        let s = ih Plain back (omega (arith, length_without is_line_byte (drop 4 rest), length_dropped 4 n rest h)) in
        let e : rest ≡ codes "    " ++ (line ++ back) = starts_front (codes "    ") rest f ∙ ap (λ xs. codes "    " ++ xs) (front_split is_line_byte (drop 4 rest)) in
        (Raw line code_weight ∷ s.0, code_line line back s.0 refl (ap (λ xs. 10 ∷ xs) e) (front_passes is_line_byte (drop 4 rest)) (line_end (drop 4 rest)) s.1)
    | inr f ↦ elim (cases_Bool (starts rest (codes "\n"))) [
      | inl q ↦ two_newlines rest h (starts_front (codes "\n") rest q)
      | inr q ↦ elim (cases_Bool (starts rest (codes " "))) [
        | inl r ↦
            let three : starts (32 ∷ drop 1 rest) (codes "    ") ≡ false = subst (λ xs. starts xs (codes "    ") ≡ false) (starts_front (codes " ") rest r) f in
            let s = ih Plain (drop 1 rest) (length_dropped 1 n rest h) in
            (LineBreak ∷ s.0, line_break (drop 1 rest) s.0 refl (ap (λ xs. 10 ∷ xs) (starts_front (codes " ") rest r)) (not_true _ three) s.1)
        | inr r ↦ let s = ih Plain rest h in (Raw (codes " ") 1 ∷ s.0, newline rest s.0 refl refl (not_true _ q) (not_true _ r) s.1)
      ]
    ]
  ] where
    two_newlines : (rest : List ℕ) → length rest ≤ n → rest ≡ 10 ∷ drop 1 rest → (chunks : List Chunk) × Spells Plain chunks (10 ∷ rest)
    two_newlines rest h front = elim (cases_Bool (starts (drop 1 rest) (codes "```"))) [
      | inl g ↦ let s = ih Opening (drop 1 rest) (length_dropped 1 n rest h) in (Paragraph ∷ s.0, fence (drop 1 rest) s.0 refl (ap (λ xs. 10 ∷ xs) front) g s.1)
      | inr g ↦ elim (cases_Bool (starts (drop 1 rest) (codes "    "))) [
        | inl p ↦
            let code : IsTrue (starts rest (codes "\n    ")) = subst (λ xs. IsTrue (starts xs (codes "\n    "))) (sym front) p in
            let s = ih Plain rest h in (Paragraph ∷ s.0, before_code rest s.0 refl refl code s.1)
        | inr p ↦
            let s = ih Plain (drop 1 rest) (length_dropped 1 n rest h) in
            (Paragraph ∷ s.0, paragraph (drop 1 rest) s.0 refl (ap (λ xs. 10 ∷ xs) front) (not_true _ g) (not_true _ p) s.1)
      ]
    ]

  from_plain : (b : ℕ) (rest : List ℕ) → length rest ≤ n → (chunks : List Chunk) × Spells Plain chunks (b ∷ rest)
  from_plain b rest h = elim (cases_Bool (b == 10)) [
    | inl e ↦ subst (λ c. (chunks : List Chunk) × Spells Plain chunks (c ∷ rest)) (sym (eqb-true b 10 e)) (from_newline rest h)
    | inr e ↦ elim (cases_Bool (b == 32)) [
      | inl f ↦ let s = ih Plain rest h in (Raw (codes " ") 1 ∷ s.0, blank rest s.0 refl (ap (λ c. c ∷ rest) (eqb-true b 32 f)) s.1)
      | inr f ↦
          let bytes : List ℕ = take_while is_word_byte (b ∷ rest) in
          let back : List ℕ = without_front is_word_byte (b ∷ rest) in
          let whole : b ∷ rest ≡ bytes ++ back = front_split is_word_byte (b ∷ rest) in
          let begins : bytes ≡ b ∷ take_while is_word_byte rest = take_while_true is_word_byte b rest (rw (e, f) refl) in
          let some : bytes ≢ [] = λ none. (let z : b ∷ take_while is_word_byte rest ≡ [] = sym begins ∙ none in cc) in
          let s = ih Plain back (rest_len (b ∷ rest) bytes back n whole (some_len bytes some) (omega (arith, h))) in
          (Raw bytes (columns bytes) ∷ s.0, word bytes back s.0 refl whole (some, front_passes is_word_byte (b ∷ rest)) (word_end (b ∷ rest)) s.1)
    ]
  ]

  from_opening : (b : ℕ) (rest : List ℕ) → length rest ≤ n → (chunks : List Chunk) × Spells Opening chunks (b ∷ rest)
  from_opening b rest h =
      let back : List ℕ = without_front is_line_byte (b ∷ rest) in
      let s = ih Later (drop 1 back) (rw (length-drop 1 (without_front is_line_byte (b ∷ rest))) (omega (arith, h, length_without is_line_byte (b ∷ rest)))) in
      (Raw (take_while is_line_byte (b ∷ rest)) fence_weight ∷ s.0, opening (take_while is_line_byte (b ∷ rest)) back (drop 1 back) s.0 refl (front_split is_line_byte (b ∷ rest)) (λ none. cc) (front_passes is_line_byte (b ∷ rest)) (past_newline back (line_end (b ∷ rest))) s.1)

  from_later : (b : ℕ) (rest : List ℕ) → length rest ≤ n → (chunks : List Chunk) × Spells Later chunks (b ∷ rest)
  from_later b rest h =
      let text : List ℕ = b ∷ rest in
      let line : List ℕ = take_while is_line_byte (b ∷ rest) in
      let back : List ℕ = without_front is_line_byte (b ∷ rest) in
      let whole : b ∷ rest ≡ line ++ back = front_split is_line_byte (b ∷ rest) in
      let all : IsTrue (list_all is_line_byte line) = front_passes is_line_byte (b ∷ rest) in
      let past : IsPastNewline back (drop 1 back) = past_newline back (line_end (b ∷ rest)) in
      elim (cases_Bool (starts (b ∷ rest) (codes "```"))) [
        | inl e ↦ elim (cases_Bool (starts back (codes "\n\n"))) [
          | inl f ↦
              let s = ih Plain back (rest_len text line back n whole (grind (arith, line_ticks text e)) (omega (arith, h))) in
              (Raw line fence_weight ∷ s.0, closing_paragraph line back s.0 refl whole all (line_ticks text e) f s.1)
          | inr f ↦
              let s = ih Plain (drop 1 back) (rw (length-drop 1 (without_front is_line_byte (b ∷ rest))) (omega (arith, h, length_without is_line_byte (b ∷ rest)))) in
              (Raw line fence_weight ∷ s.0, closing line back (drop 1 back) s.0 refl whole all (line_ticks text e) (not_true _ f) past s.1)
        ]
        | inr e ↦
            let s = ih Later (drop 1 back) (rw (length-drop 1 (without_front is_line_byte (b ∷ rest))) (omega (arith, h, length_without is_line_byte (b ∷ rest)))) in
            (Raw line fence_weight ∷ s.0, later line back (drop 1 back) s.0 refl whole (λ none. cc) all (λ t. not_true _ e (text_ticks text line back whole t)) past s.1)
      ]

exists : (n : ℕ) → SpelledTo n
exists n form [] h = ([], nothing refl refl)
exists zero form (b ∷ rest) h = absurd (omega arith)
exists (suc n) Plain (b ∷ rest) h = from_plain n (exists n) b rest (omega arith)
exists (suc n) Opening (b ∷ rest) h = from_opening n (exists n) b rest (omega arith)
exists (suc n) Later (b ∷ rest) h = from_later n (exists n) b rest (omega arith)

-- ---- both

-- a text is spelled by its chunks, in each form
pub spells_in : (form : Form) (text : List ℕ) → Spells form (chunks_in form text) text
unfolding chunks_in
spells_in form text = let s = exists (length text) form text (omega arith) in subst (λ cs. Spells form cs text) (unique s.1 (length text) (omega arith)) s.1

-- each text is spelled by its chunks
pub spells_its_chunks : (text : List ℕ) → Spells Plain (chunks_of text) text
unfolding chunks_of
spells_its_chunks text = spells_in Plain text

-- and by no other list, in each form
pub only_in : (form : Form) (chunks : List Chunk) (text : List ℕ) → Spells form chunks text → chunks ≡ chunks_in form text
unfolding chunks_in
only_in form chunks text s = unique s (length text) (omega arith)

-- and by no other list
pub only_its_chunks : (chunks : List Chunk) (text : List ℕ) → Spells Plain chunks text → chunks ≡ chunks_of text
unfolding chunks_of chunks_in
only_its_chunks chunks text s = unique s (length text) (omega arith)
