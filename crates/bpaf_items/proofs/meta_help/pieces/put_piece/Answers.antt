use Rattle.std.specs.Prelude.{◌∷◌}
use Rattle.bpaf_items.proofs.Words.{[], true, encode_utf8, start, end, text, literal, doc_writes, em_doc_writes, tree_of, usage_writes}
use Rattle.bpaf_items.proofs.Page.Leaving.{leaves_call}
use Rattle.bpaf_items.proofs.meta_help.pieces.put_piece.Goals as goal

pub returns-in-Start : goal.returns-in-Start
returns-in-Start g c = rw c.in-Start.is (leaves_call c.token.result c.args.doc.now c.token.new.self (start c.in-Start.block ∷ []) c.token.ensures.ok c.token.ensures.err)

pub returns-in-End : goal.returns-in-End
returns-in-End g c = rw c.in-End.is (leaves_call c.token-in-End.result c.args.doc.now c.token-in-End.new.self (end c.in-End.block ∷ []) c.token-in-End.ensures.ok c.token-in-End.ensures.err)

pub returns-in-Text : goal.returns-in-Text
returns-in-Text g c = rw c.in-Text.is (leaves_call c.write_str.result c.args.doc.now c.write_str.new.self (text c.in-Text.text.now c.in-Text.style ∷ []) c.write_str.ensures.ok c.write_str.ensures.err)

pub returns-in-Character : goal.returns-in-Character
returns-in-Character g c = rw c.in-Character.is (leaves_call c.write_char.result c.args.doc.now c.write_char.new.self (literal (encode_utf8 c.in-Character.character) ∷ []) c.write_char.ensures.ok c.write_char.ensures.err)

pub returns-in-Document : goal.returns-in-Document
returns-in-Document g c = rw c.in-Document.is (leaves_call c.doc.result c.args.doc.now c.doc.new.self (doc_writes c.in-Document.other.now) c.doc.ensures.ok c.doc.ensures.err)

pub returns-in-Title : goal.returns-in-Title
returns-in-Title g c = rw c.in-Title.is (leaves_call c.em_doc.result c.args.doc.now c.em_doc.new.self (em_doc_writes c.in-Title.other.now) c.em_doc.ensures.ok c.em_doc.ensures.err)

pub returns-in-Usage : goal.returns-in-Usage
returns-in-Usage g c = rw c.in-Usage.is (leaves_call c.write_meta.result c.args.doc.now c.write_meta.new.doc (usage_writes true (tree_of c.in-Usage.tree.now)) c.write_meta.ensures.ok c.write_meta.ensures.err)
