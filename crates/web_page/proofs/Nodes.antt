-- What more nodes, or a byte more of text, change in what is asked of nodes.
use Rattle.std.proofs.Common.{◌≡◌, ℕ, Bool, true, false, ◌&&◌, ◌||◌, List, [], ◌∷◌, ◌++◌, refl, sym, ap, ◌∙◌, arith}
use Rattle.std.specs.Prelude.{Option, Some}
use Rattle.std.specs.List.{list_any, list_all}
use Rattle.std.proofs.lemmas.Bool.{and_parts, and_from}
use Rattle.std.proofs.lemmas.List.Folds.{list_any-append, list_all-append}
use Rattle.web_page.specs.Tree.{Nodes, none, text, element}
use Rattle.web_page.specs.Reader.{are_kept, is_kept, joined, with_byte}
use Rattle.web_page.specs.Models.{are_fit, are_in_order, has_ink, is_ink, last_child, may_hold}
use Rattle.web_page.specs.Calls.{with_words}
use Rattle.web_page.specs.declared.elements.Child.{Child}
use Rattle.web_page.specs.declared.elements.Child.TheVariants.{Words, Inner}
use Rattle.web_page.specs.declared.elements.Tag.{Tag}

and_assoc : (a b c : Bool) → (a && b && c) ≡ (a && (b && c))
and_assoc a b c = grind arith

or_assoc : (a b c : Bool) → (a || b || c) ≡ (a || (b || c))
or_assoc a b c = grind arith

or_false : (a : Bool) → (a || false) ≡ a
or_false a = grind arith

or_swap : (a : Bool) → ((a || false) || false) ≡ (false || a)
or_swap a = grind arith

-- ---- nodes after nodes

pub joined-none : (nodes : Nodes) → joined nodes none ≡ nodes
joined-none none = refl
joined-none (text bytes rest) = ap (text bytes) (joined-none rest)
joined-none (element tag given content rest) = ap (element tag given content) (joined-none rest)

pub joined-assoc : (nodes more last : Nodes) → joined (joined nodes more) last ≡ joined nodes (joined more last)
joined-assoc none more last = refl
joined-assoc (text bytes rest) more last = ap (text bytes) (joined-assoc rest more last)
joined-assoc (element tag given content rest) more last = ap (element tag given content) (joined-assoc rest more last)

pub last_child-joined : (before : Option Child) (nodes more : Nodes) → last_child before (joined nodes more) ≡ last_child (last_child before nodes) more
last_child-joined before none more = refl
last_child-joined before (text bytes rest) more = last_child-joined (Some Words) rest more
last_child-joined before (element tag given content rest) more = last_child-joined (Some (Inner tag)) rest more

pub are_in_order-joined : (tag : Tag) (before : Option Child) (nodes more : Nodes) → are_in_order tag before (joined nodes more) ≡ (are_in_order tag before nodes && are_in_order tag (last_child before nodes) more)
are_in_order-joined tag before none more = refl
are_in_order-joined tag before (text bytes rest) more = grind (arith, are_in_order-joined tag (Some Words) rest more, and_assoc)
are_in_order-joined tag before (element inner given content rest) more = grind (arith, are_in_order-joined tag (Some (Inner inner)) rest more, and_assoc)

pub has_ink-joined : (nodes more : Nodes) → has_ink (joined nodes more) ≡ (has_ink nodes || has_ink more)
has_ink-joined none more = refl
has_ink-joined (text bytes rest) more = ap (λ x. list_any is_ink bytes || x) (has_ink-joined rest more) ∙ sym (or_assoc (list_any is_ink bytes) (has_ink rest) (has_ink more))
has_ink-joined (element tag given content rest) more = ap (λ x. has_ink content || x) (has_ink-joined rest more) ∙ sym (or_assoc (has_ink content) (has_ink rest) (has_ink more))

pub are_kept-joined : (nodes more : Nodes) → are_kept (joined nodes more) ≡ (are_kept nodes && are_kept more)
are_kept-joined none more = refl
are_kept-joined (text bytes rest) more = ap (λ x. list_all is_kept bytes && x) (are_kept-joined rest more) ∙ sym (and_assoc (list_all is_kept bytes) (are_kept rest) (are_kept more))
are_kept-joined (element tag given content rest) more = are_kept-joined rest more

pub are_fit-joined : (in_link : Bool) (nodes more : Nodes) → are_fit in_link (joined nodes more) ≡ (are_fit in_link nodes && are_fit in_link more)
are_fit-joined in_link none more = refl
are_fit-joined in_link (text bytes rest) more = are_fit-joined in_link rest more
are_fit-joined in_link (element tag given content rest) more = grind (arith, are_fit-joined in_link rest more, and_assoc)

-- ---- a byte of text after nodes

last_child-with_byte : (before : Option Child) (nodes : Nodes) (b : ℕ) → last_child before (with_byte nodes b) ≡ Some Words
last_child-with_byte before (text bytes (text more rest)) b = last_child-with_byte (Some Words) (text more rest) b
last_child-with_byte before (text bytes (element tag given content rest)) b = last_child-with_byte (Some Words) (element tag given content rest) b
last_child-with_byte before (element tag given content rest) b = last_child-with_byte (Some (Inner tag)) rest b
last_child-with_byte before x b = grind arith

-- whether text may follow the nodes: a last text takes it
abbrev takes_after : Tag → Option Child → Nodes → Bool
takes_after tag before none = may_hold tag before Words
takes_after tag before (text bytes none) = true
takes_after tag before (text bytes rest) = takes_after tag (Some Words) rest
takes_after tag before (element inner given content rest) = takes_after tag (Some (Inner inner)) rest

takes_after_text : (tag : Tag) (before : Option Child) (bytes : List ℕ) (nodes : Nodes) → takes_after tag (Some Words) nodes ≡ true → takes_after tag before (text bytes nodes) ≡ true
takes_after_text tag before bytes nodes h4 = grind arith

takes_from_may : (tag : Tag) (before : Option Child) (nodes : Nodes) → may_hold tag (last_child before nodes) Words ≡ true → takes_after tag before nodes ≡ true
takes_from_may tag before none h = h
takes_from_may tag before (text bytes rest) h = takes_after_text tag before bytes rest (takes_from_may tag (Some Words) rest h)
takes_from_may tag before (element inner given content rest) h = takes_from_may tag (Some (Inner inner)) rest h

takes_after-with_byte : (tag : Tag) (before : Option Child) (nodes : Nodes) (b : ℕ) → takes_after tag before (with_byte nodes b) ≡ true
takes_after-with_byte tag before (text bytes (text more rest)) b = takes_after_text tag before bytes (with_byte (text more rest) b) (takes_after-with_byte tag (Some Words) (text more rest) b)
takes_after-with_byte tag before (text bytes (element inner given content rest)) b = takes_after-with_byte tag (Some Words) (element inner given content rest) b
takes_after-with_byte tag before (element inner given content rest) b = takes_after-with_byte tag (Some (Inner inner)) rest b
takes_after-with_byte tag before x b = grind arith

are_in_order-with_byte : (tag : Tag) (before : Option Child) (nodes : Nodes) (b : ℕ) → takes_after tag before nodes ≡ true → are_in_order tag before nodes ≡ true → are_in_order tag before (with_byte nodes b) ≡ true
are_in_order-with_byte tag before (text bytes (text more rest)) b t h = grind (arith, are_in_order-with_byte tag (Some Words) (text more rest) b t, and_parts, and_from)
are_in_order-with_byte tag before (text bytes (element inner given content rest)) b t h = grind (arith, are_in_order-with_byte tag (Some Words) (element inner given content rest) b t, and_parts, and_from)
are_in_order-with_byte tag before (element inner given content rest) b t h = grind (arith, are_in_order-with_byte tag (Some (Inner inner)) rest b t, and_parts, and_from)
are_in_order-with_byte tag before x b t h = grind (arith, and_from)

one_more : (p : ℕ → Bool) (bytes : List ℕ) (b : ℕ) → list_any p (bytes ++ b ∷ []) ≡ (list_any p bytes || p b)
one_more p bytes b = list_any-append p bytes (b ∷ []) ∙ ap (λ x. list_any p bytes || x) (or_false (p b))

has_ink-with_byte : (nodes : Nodes) (b : ℕ) → has_ink (with_byte nodes b) ≡ (has_ink nodes || is_ink b)
has_ink-with_byte (text bytes (text more rest)) b = ap (λ x. list_any is_ink bytes || x) (has_ink-with_byte (text more rest) b) ∙ sym (or_assoc (list_any is_ink bytes) (has_ink (text more rest)) (is_ink b))
has_ink-with_byte (text bytes (element tag given content rest)) b = ap (λ x. list_any is_ink bytes || x) (has_ink-with_byte (element tag given content rest) b) ∙ sym (or_assoc (list_any is_ink bytes) (has_ink (element tag given content rest)) (is_ink b))
has_ink-with_byte (element tag given content rest) b = ap (λ x. has_ink content || x) (has_ink-with_byte rest b) ∙ sym (or_assoc (has_ink content) (has_ink rest) (is_ink b))
has_ink-with_byte x b = grind (arith, or_swap, or_false, one_more)

are_kept-with_byte : (nodes : Nodes) (b : ℕ) → is_kept b ≡ true → are_kept nodes ≡ true → are_kept (with_byte nodes b) ≡ true
are_kept-with_byte (text bytes (text more rest)) b k h = grind (arith, are_kept-with_byte (text more rest) b k, and_parts, and_from)
are_kept-with_byte (text bytes (element tag given content rest)) b k h = grind (arith, are_kept-with_byte (element tag given content rest) b k, and_parts, and_from)
are_kept-with_byte (element tag given content rest) b k h = are_kept-with_byte rest b k h
are_kept-with_byte x b k h = grind (arith, and_from, and_parts, list_all-append)

are_fit-with_byte : (in_link : Bool) (nodes : Nodes) (b : ℕ) → are_fit in_link (with_byte nodes b) ≡ are_fit in_link nodes
are_fit-with_byte in_link (text bytes (text more rest)) b = are_fit-with_byte in_link (text more rest) b
are_fit-with_byte in_link (text bytes (element tag given content rest)) b = are_fit-with_byte in_link (element tag given content rest) b
are_fit-with_byte in_link (element tag given content rest) b = grind (arith, are_fit-with_byte in_link rest b)
are_fit-with_byte in_link x b = grind arith

-- ---- text after nodes

pub last_child-with_words : (before : Option Child) (nodes : Nodes) (b : ℕ) (bytes : List ℕ) → last_child before (with_words nodes (b ∷ bytes)) ≡ Some Words
last_child-with_words before nodes b [] = last_child-with_byte before nodes b
last_child-with_words before nodes b (c ∷ bytes) = last_child-with_words before (with_byte nodes b) c bytes

in_order : (tag : Tag) (before : Option Child) (nodes : Nodes) (bytes : List ℕ) → takes_after tag before nodes ≡ true → are_in_order tag before nodes ≡ true → are_in_order tag before (with_words nodes bytes) ≡ true
in_order tag before nodes [] t h = h
in_order tag before nodes (b ∷ bytes) t h = in_order tag before (with_byte nodes b) bytes (takes_after-with_byte tag before nodes b) (are_in_order-with_byte tag before nodes b t h)

pub are_in_order-with_words : (tag : Tag) (before : Option Child) (nodes : Nodes) (bytes : List ℕ) → may_hold tag (last_child before nodes) Words ≡ true → are_in_order tag before nodes ≡ true → are_in_order tag before (with_words nodes bytes) ≡ true
are_in_order-with_words tag before nodes bytes t h = in_order tag before nodes bytes (takes_from_may tag before nodes t) h

pub has_ink-with_words : (nodes : Nodes) (bytes : List ℕ) → has_ink (with_words nodes bytes) ≡ (has_ink nodes || list_any is_ink bytes)
has_ink-with_words nodes [] = sym (or_false (has_ink nodes))
has_ink-with_words nodes (b ∷ bytes) = has_ink-with_words (with_byte nodes b) bytes ∙ ap (λ x. x || list_any is_ink bytes) (has_ink-with_byte nodes b) ∙ or_assoc (has_ink nodes) (is_ink b) (list_any is_ink bytes)

pub are_kept-with_words : (nodes : Nodes) (bytes : List ℕ) → list_all is_kept bytes ≡ true → are_kept nodes ≡ true → are_kept (with_words nodes bytes) ≡ true
are_kept-with_words nodes [] k h = h
are_kept-with_words nodes (b ∷ bytes) k h = grind (arith, are_kept-with_words (with_byte nodes b) bytes, and_parts, are_kept-with_byte)

pub are_fit-with_words : (in_link : Bool) (nodes : Nodes) (bytes : List ℕ) → are_fit in_link (with_words nodes bytes) ≡ are_fit in_link nodes
are_fit-with_words in_link nodes [] = refl
are_fit-with_words in_link nodes (b ∷ bytes) = are_fit-with_words in_link (with_byte nodes b) bytes ∙ are_fit-with_byte in_link nodes b
