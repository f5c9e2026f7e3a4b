-- The steps of the code, one after another.
use Rattle.std.proofs.Common.{◌≡◌, ◌≢◌, ℕ, ◌+◌, ◌<◌, ◌≤◌, Bool, false, suc, List, [], ◌∷◌, ◌++◌, map, take, drop, length, refl, sym, ap, ◌∙◌, subst, inl, inr, append_assoc, append-nil, get_or, arith, Result, Ok, Err, rules}
use Rattle.std.specs.Prelude.{flat_map, Option, IfErr, IfOk, OnOk, unwrap_or, encode_utf8, codes}
use Rattle.std.specs.Borrow.{Bor}
use Rattle.std.specs.List.{join_with_byte}
use Rattle.std.specs.Bool.{nat_lt}
use Rattle.std.specs.Result.{IsErrAnd}
use Rattle.std.proofs.lemmas.Bool.{lt-ltb, ne_eqb, cases_eq}
use Rattle.std.proofs.lemmas.List.{map-append}
use Rattle.std.proofs.lemmas.Str.{encode_ascii, inside_one}
use Rattle.bpaf_doc.specs.declared.buffer.Block.TheVariants as block
use Rattle.bpaf_roff.specs.Roff.{Script}
use Rattle.bpaf_doc.specs.Buffer.Parts.{Part}
use Rattle.bpaf_doc.specs.Manpage.Events.{word_of}
use Rattle.bpaf_doc.specs.Manpage.Reader.{Control}
use Rattle.bpaf_doc.specs.Manpage.Page.{TakesDocument, IsPageOf, IsManualPageOf, TitlePageTakesDocument, TitledPageIsManualPage, title_page}
use Rattle.bpaf_doc.specs.Buffer.Writes.{Write, start, end, plain, inside, doc_writes, path_writes, with_writes, document_of}
use Rattle.bpaf_doc.proofs.lemmas.Buffer.Nesting.{with_writes-inside}
use Rattle.bpaf_meta.specs.Content.{Tree, Head, head}
use Rattle.bpaf_meta.specs.declared.item.Item.{the_lemmas}
use Rattle.bpaf_meta.specs.declared.meta_help.Info.{Info}
use Rattle.bpaf_meta.specs.View.{head_of, tree_of, text_of}
use Rattle.bpaf_items.specs.declared.meta_help.error.HelpError.{HelpError}
use Rattle.bpaf_items.specs.declared.meta_help.error.HelpError.TheVariants as error
use Rattle.bpaf_items.specs.Listing.ItemList.{Entry, item_list}
use Rattle.bpaf_items.specs.Listing.Falls.{shown_entries}
use Rattle.bpaf_items.specs.Page.EnvTexts.{Texts, no_texts}
use Rattle.bpaf_items.specs.Page.EntryWrites.{entry_writes}
use Rattle.bpaf_items.specs.Page.HelpPage.{list_writes, heading_writes, groups_writes, doc_within, help_page_writes, help_tree}
use Rattle.bpaf_items.proofs.Page.Leaving.{map_next, written_then}
use Rattle.bpaf_help.specs.Chapters.{Chapter, AreWellPlaced, chapter_page, chapters_of, collected_writes, dashed_byte, if_many, manual_chapter, manual_writes, own_page_writes, summary_writes, synopsis_line, synopsis_writes}
use Rattle.bpaf_help.specs.PageAnswers.{AreErrorOf, IsCollected}
use Rattle.bpaf_help.specs.Steps.{EndsAtOne, IsErrorOf, manual_part, manual_front, path_title}

-- ---- paths

-- the next of some that are copied
pub copied_next : {X Y Z : Type 0} (f : X → Z) (g : Y → Z) (old new : List X) (x : X) (ys : List Y) (i : ℕ) (y : Y) → i < length ys → y ≡ get_or ys i y → f x ≡ g y
    → new ≡ old ++ x ∷ [] → map f old ≡ map g (take i ys) → map f new ≡ map g (take (i + 1) ys)
copied_next f g old new x ys i y within is same e h = grind (arith, map-append, map_next)

-- names with a character between them are the first, and then each other after the character
pub joined_writes : {X : Type 0} (bytes : X → List ℕ) (c : ℕ) (x : X) (xs : List X) → join_with_byte c (map bytes (x ∷ xs)) ≡ bytes x ++ flat_map (λ y. c ∷ bytes y) xs
joined_writes bytes c x [] = sym (append-nil (bytes x))
joined_writes bytes c x (y ∷ ys) = ap (λ bs. bytes x ++ c ∷ bs) (joined_writes bytes c y ys)

-- those of the others that were gone through, which are all in the end
pub joined_names : {X : Type 0} (bytes : X → List ℕ) (c : ℕ) (all : List X) (first : X) (others done : List X) (begun text : List ℕ)
    → all ≡ first ∷ others → done ≡ others → begun ≡ bytes first → text ≡ begun ++ flat_map (λ y. c ∷ bytes y) done → text ≡ join_with_byte c (map bytes all)
joined_names bytes c all first others done begun text is whole b e = grind (arith, joined_writes)

no_blank : (bs : List ℕ) → ((k : ℕ) → k < length bs → get_or bs k 0 ≢ 32) → map dashed_byte bs ≡ bs
no_blank [] p = refl
no_blank (b ∷ bs) p =
    let first : dashed_byte b ≡ b = rw (ne_eqb b 32 (p 0 (omega arith))) refl in
    ap (λ x. x ∷ map dashed_byte bs) first ∙ ap (λ xs. b ∷ xs) (no_blank bs (λ k l. p (suc k) (omega arith)))

-- no byte of another character is a blank
dashed_character : (c : ℕ) → map dashed_byte (encode_utf8 c) ≡ encode_utf8 (dashed_byte c)
dashed_character c = elim (cases_eq c 32) [ inl e ↦ at e | inr ne ↦ other ne ] where
  at : c ≡ 32 → map dashed_byte (encode_utf8 c) ≡ encode_utf8 (dashed_byte c)
  at e = subst (λ x. map dashed_byte (encode_utf8 x) ≡ encode_utf8 (dashed_byte x)) (sym e) (ap (map dashed_byte) (encode_ascii 32 (omega arith)) ∙ sym (encode_ascii 45 (omega arith)))

  other : c ≢ 32 → map dashed_byte (encode_utf8 c) ≡ encode_utf8 (dashed_byte c)
  other ne =
      let same : dashed_byte c ≡ c = rw (ne_eqb c 32 ne) refl in
      no_blank (encode_utf8 c) (λ k h e. ne (inside_one c [] (encode_utf8 c) k (sym (append-nil (encode_utf8 c))) h (omega arith) ∙ e)) ∙ ap encode_utf8 (sym same)

-- the next character of a text whose blanks become dashes
pub dashed_step : (out more rest after whole : List ℕ) (c d : ℕ) → rest ≡ encode_utf8 c ++ after → d ≡ dashed_byte c → out ++ map dashed_byte rest ≡ whole → more ≡ out ++ encode_utf8 d → more ++ map dashed_byte after ≡ whole
dashed_step out more rest after whole c d e f w m = grind (arith, dashed_character, append_assoc, map-append)

pub dashed_end : (out rest whole : List ℕ) → length rest ≡ 0 → out ++ map dashed_byte rest ≡ whole → out ≡ whole
dashed_end out [] whole n w = sym (append-nil out) ∙ w
dashed_end out (b ∷ rest) whole n w = absurd (omega arith)

-- ---- writes of lists

-- what a list's members write, by their content
pub flat_map_map : {X Y : Type 0} (f : Y → List Write) (g : X → Y) (xs : List X) → flat_map (λ x. f (g x)) xs ≡ flat_map f (map g xs)
flat_map_map f g [] = refl
flat_map_map f g (x ∷ xs) = ap (λ ws. f (g x) ++ ws) (flat_map_map f g xs)

pub flat_map_same : {X : Type 0} (f g : X → List Write) → ((x : X) → f x ≡ g x) → (xs : List X) → flat_map f xs ≡ flat_map g xs
flat_map_same f g e [] = refl
flat_map_same f g e (x ∷ xs) = ap (λ ws. ws ++ flat_map f xs) (e x) ∙ ap (λ ws. g x ++ ws) (flat_map_same f g e xs)

-- two chapters or more
many_writes : {X : Type 0} (f : X → Chapter) (xs : List X) (ws : List Write) → 2 ≤ length xs → if_many (map f xs) ws ≡ ws
many_writes f [] ws h = absurd (omega arith)
many_writes f (x ∷ []) ws h = absurd (omega arith)
many_writes f (x ∷ y ∷ xs) ws h = refl

-- what is written of them, in two steps
pub many_put : {X T E : Type 0} (f : X → Chapter) (xs : List X) (r : Result T E) (before mid now : List Part) (vs ws : List Write) → 2 ≤ length xs
    → mid ≡ with_writes before vs → OnOk r (now ≡ with_writes mid ws) → OnOk r (now ≡ with_writes before (if_many (map f xs) (vs ++ ws)))
many_put f xs (Ok x) before mid now vs ws h e g = written_then before mid now vs ws e g ∙ ap (with_writes before) (sym (many_writes f xs (vs ++ ws) h))
many_put f xs (Err x) before mid now vs ws h e g = tt

pub synopsis_put : {X T E : Type 0} (f : X → Chapter) (xs : List X) (r : Result T E) (d0 d1 d2 d3 d4 : List Part) → 2 ≤ length xs
    → d1 ≡ with_writes d0 (inside block.Block (inside block.Header (plain (codes "SYNOPSIS") ∷ [])))
    → d2 ≡ with_writes d1 (start block.Meta ∷ [])
    → d3 ≡ with_writes d2 (flat_map synopsis_line (map f xs))
    → OnOk r (d4 ≡ with_writes d3 (end block.Meta ∷ []))
    → OnOk r (d4 ≡ with_writes d0 (if_many (map f xs) (synopsis_writes (map f xs))))
synopsis_put f xs r d0 d1 d2 d3 d4 h8 h9 h10 h11 h12 = grind (arith, written_then, many_writes)

-- a chapter of the manual page, by whether there are two or more
pub many_parts : (app : List ℕ) (cs : List Chapter) → flat_map (manual_part app (nat_lt 1 (length cs))) cs ≡ flat_map (λ c. if_many cs (inside block.Header (path_writes c.path)) ++ manual_chapter app c.path c.content c.info) cs
many_parts app cs = grind (arith, lt-ltb)

-- ---- pages without environment texts

-- an entry shows no text then
entry_alone : (t u : Texts) (e : Entry) → entry_writes false t e ≡ entry_writes false u e
entry_alone t u e = grind arith

list_alone : (t u : Texts) (es : List Entry) → list_writes false t es ≡ list_writes false u es
list_alone t u es = flat_map_same (entry_writes false t) (entry_writes false u) (entry_alone t u) (shown_entries es)

heading_alone : (t u : Texts) (title : List ℕ) (es : List Entry) → heading_writes false t title es ≡ heading_writes false u title es
heading_alone t u title es = grind (arith, list_alone)

pub groups_alone : (t u : Texts) (es : List Entry) → groups_writes false t es ≡ groups_writes false u es
groups_alone t u es = grind (arith, flat_map_same, list_alone, heading_alone)

-- so the groups that were put after a document
pub groups_put : {T E : Type 0} (r : Result T E) (before now : List Part) (es fs : List Entry) (t : Texts) → es ≡ fs → OnOk r (now ≡ with_writes before (groups_writes false t es)) → OnOk r (now ≡ with_writes before (groups_writes false no_texts fs))
groups_put r before now es fs t h6 h7 = grind (arith, groups_alone)

pub help_page_alone : (t u : Texts) (path : List (List ℕ)) (i : Head) (tree help : Tree) → help_page_writes path i tree help false t ≡ help_page_writes path i tree help false u
help_page_alone t u path (head descr header footer usage own) tree help = rw (groups_alone t u (item_list tree ++ item_list help)) refl

-- ---- chapters of the manual page

-- what an info says, part by part
pub view_info : {A : Type 0} (i : Info A) → head_of i ≡ head i.descr i.header i.footer i.usage (tree_of i.help)
view_info i = search (rules, the_lemmas)

abbrev manual_list : Tree → Head → List Write
manual_list t (head descr header footer usage help) = groups_writes false no_texts (item_list t ++ item_list help)

abbrev manual_footer : Head → List Write
manual_footer (head descr header footer usage help) = doc_within block.Block footer

-- the parts of a chapter, one after another
chapter_parts : (app : List ℕ) (path : List (List ℕ)) (t : Tree) (i : Head) → (manual_front app path t i ++ manual_list t i) ++ manual_footer i ≡ manual_chapter app path t i
chapter_parts app path t (head descr header footer usage help) = refl

pub chapter_put : {A T E : Type 0} (r : Result T E) (app : List ℕ) (many : Bool) (path : List (List ℕ)) (t : Tree) (i : Info A) (d0 d1 d2 d3 d4 : List Part)
    → d1 ≡ with_writes d0 (path_title many path)
    → d2 ≡ with_writes d1 (manual_front app path t (head_of i))
    → d3 ≡ with_writes d2 (groups_writes false no_texts (item_list t ++ item_list (tree_of i.help)))
    → OnOk r (d4 ≡ with_writes d3 (doc_within block.Block i.footer))
    → OnOk r (d4 ≡ with_writes d0 (path_title many path ++ manual_chapter app path t (head_of i)))
chapter_put (Ok x) app many path t i d0 d1 d2 d3 d4 e f g h = grind (arith, view_info i, written_then d1 d3 d4, written_then d1 d2 d3, written_then d0 d1 d4 (path_title many path) (manual_chapter app path t (head_of i)) e, chapter_parts app path t (head_of i))
chapter_put (Err x) app many path t i d0 d1 d2 d3 d4 e f g h = tt

pub manual_whole : (app : List ℕ) (t : Tree) (i : Head) (cs : List Chapter) (many : Bool) (first d1 d2 : List Part) → first ≡ [] → cs ≡ chapters_of (app ∷ []) i t → many ≡ nat_lt 1 (length cs)
    → d1 ≡ with_writes first (if_many cs (synopsis_writes cs)) → d2 ≡ with_writes d1 (flat_map (manual_part app many) cs) → d2 ≡ document_of (manual_writes app t i)
manual_whole app t i cs many first d1 d2 none is m e f = grind (arith, written_then, many_parts)

pub collected_whole : (app : List ℕ) (t : Tree) (i : Head) (cs : List Chapter) (first d1 d2 : List Part) → first ≡ [] → cs ≡ chapters_of (app ∷ []) i t
    → d1 ≡ with_writes first (if_many cs (summary_writes cs)) → d2 ≡ with_writes d1 (flat_map chapter_page cs) → d2 ≡ document_of (collected_writes app t i)
collected_whole app t i cs first d1 d2 none is e f = grind (arith, written_then first d1 d2 (if_many cs (summary_writes cs)) (flat_map chapter_page cs) e f)

-- ---- pages

-- an error at a chapter after others that are well placed
pub error_at : {A : Type 0} (front back all : List Chapter) (c : Chapter) (e : HelpError A) → all ≡ front ++ c ∷ back → AreWellPlaced front → IsErrorOf c.content e → EndsAtOne all e
error_at front back all c e order well_placed reason = record { front = front; last = c; back = back; order = order; well_placed = well_placed; reason = reason }

pub error_of_pages : {A : Type 0} (cs : List Chapter) (e : HelpError A) → EndsAtOne cs e → AreErrorOf cs e
error_of_pages cs (error.Memory refused) h = tt
error_of_pages cs (error.Misplaced i) h = record { front = h.front; faulty = h.last; back = h.back; order = h.order; well_placed = h.well_placed; first = h.reason }

-- an error that is passed on
pub err_same : {X E : Type 0} (P : E → Type 0) (r : Result X E) (e : E) → IsErrAnd r (λ y. y ≡ e) → P e → IfErr r P
err_same P r e h3 h4 = grind arith

pub err_collected : {A T : Type 0} (chapters : List Chapter) (r : Result T (HelpError A)) (e : HelpError A) → IsErrAnd r (λ y. y ≡ e) → AreErrorOf chapters e → IsCollected chapters r
err_collected chapters r e same h = grind arith

-- the place of a member between those before it and those after it
pub at_place : {X Y : Type 0} (f : X → Y) (xs : List X) (i : ℕ) (x : X) → i < length xs → x ≡ get_or xs i x → map f xs ≡ map f (take i xs) ++ f x ∷ map f (drop (i + 1) xs)
at_place f (y ∷ ys) (suc i) x within is = grind (arith, at_place f ys i x (omega arith) is)
at_place f z u x within is = grind arith

-- the help page of a chapter
own_writes : {A : Type 0} (path : List (List ℕ)) (i : Info A) (t : Tree) (texts : Texts)
    → help_page_writes path (head_of i) t (tree_of i.help) false texts ≡ own_page_writes (record { path = path; info = head_of i; content = t })
own_writes path i t texts = help_page_alone texts no_texts path (head_of i) t (tree_of i.help) ∙ ap (λ help. help_page_writes path (head_of i) t help false no_texts) (sym (ap help_tree (view_info i)))

-- and written between the marks of an inline block, which is the page as a document
pub page_put : {A T E : Type 0} (r : Result T E) (path : List (List ℕ)) (i : Info A) (t : Tree) (texts : Texts) (d0 d1 d2 d3 : List Part)
    → d1 ≡ with_writes d0 (start block.InlineBlock ∷ []) → d2 ≡ with_writes d1 (help_page_writes path (head_of i) t (tree_of i.help) false texts) → OnOk r (d3 ≡ with_writes d2 (end block.InlineBlock ∷ []))
    → OnOk r (d3 ≡ with_writes d0 (doc_writes (document_of (own_page_writes (record { path = path; info = head_of i; content = t })))))
page_put (Ok x) path i t texts d0 d1 d2 d3 e f h =
    let ws = help_page_writes path (head_of i) t (tree_of i.help) false texts in
    written_then d0 d2 d3 (start block.InlineBlock ∷ ws) (end block.InlineBlock ∷ []) (written_then d0 d1 d2 (start block.InlineBlock ∷ []) ws e f) h
    ∙ with_writes-inside d0 block.InlineBlock ws
    ∙ ap (λ vs. with_writes d0 (doc_writes (document_of vs))) (own_writes path i t texts)
page_put (Err x) path i t texts d0 d1 d2 d3 e f h = tt

-- ---- the manual page

-- a given text, or another in its place
pub given_text : (o : Option (Bor (List ℕ))) (d r : Bor (List ℕ)) → r ≡ unwrap_or o d → r.now ≡ unwrap_or (text_of o) d.now
given_text o d r e = grind arith

pub same_words : (a : List ℕ) {s t d e v w x y : List ℕ} → s ≡ t → d ≡ e → v ≡ w → x ≡ y → a ∷ s ∷ d ∷ v ∷ x ∷ [] ≡ a ∷ t ∷ e ∷ w ∷ y ∷ []
same_words a p q r u = rw (p, q, r, u) refl

-- a page that holds a title line, with a document after it
pub manual_read : {S E : Type 0} → TitlePageTakesDocument → TitledPageIsManualPage → (words : List (List ℕ)) (bytes : S → List ℕ) (document same : List Part) (page : Script) (r : Result S E)
    → page ≡ title_page words → document ≡ same → (TakesDocument page → IfOk r (λ text. IsPageOf page document (bytes text))) → IfOk r (λ text. IsManualPageOf (Control (codes "TH") (map word_of words)) same (bytes text))
manual_read takes manual words bytes document same page (Ok text) e f read = grind arith
manual_read takes manual words bytes document same page (Err x) e f read = tt
