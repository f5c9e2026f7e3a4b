-- Values of the code, seen as a chunk of the list and as the form in which a text is read.
use Rattle.bpaf_doc.specs.declared.splitter.Chunk.TheVariants as handed
use Rattle.bpaf_doc.specs.declared.splitter.{Chunk.Chunk as Handed, Form.Form as Held}
use Rattle.bpaf_doc.specs.declared.splitter.Form.TheVariants as held
use Rattle.bpaf_doc.specs.Splitter.Chunks.{Chunk, Raw, Paragraph, LineBreak, Form, Plain, Opening, Later}

-- the chunk that was returned
abbrev pub chunk_of : Handed → Chunk
chunk_of (handed.Raw text weight) = Raw text.now weight
chunk_of handed.Paragraph = Paragraph
chunk_of handed.LineBreak = LineBreak

-- the form that a splitter reads in
abbrev pub form_of : Held → Form
form_of held.Plain = Plain
form_of held.Opening = Opening
form_of held.Later = Later
