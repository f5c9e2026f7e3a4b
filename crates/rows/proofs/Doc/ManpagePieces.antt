-- Documents on a page of roff, computed: the pieces and their rendering.
use Rattle.std.specs.Prelude.{◌≡◌, Bool, true, false, [], ◌∷◌, codes, refl}
use Rattle.bpaf_roff.specs.Roff.{Script, escape_pieces, piece}
use Rattle.bpaf_roff.specs.declared.escape.Escape.TheVariants.{SpecialNoNewline, Spaces, Unescaped, UnescapedAtNewline}
use Rattle.bpaf_doc.specs.Buffer.Parts.{Text, Start, End}
use Rattle.bpaf_doc.specs.Manpage.Page.{title_page}
use Rattle.bpaf_doc.specs.Manpage.Exact.{document_pieces, roff_page}
use Rattle.bpaf_doc.specs.declared.buffer.Style.TheVariants as style
use Rattle.bpaf_doc.specs.declared.buffer.Block.TheVariants as block

-- a page with a title line
abbrev titled : Script
titled = title_page (codes "app" ∷ codes "1" ∷ codes "-" ∷ codes "-" ∷ [] ∷ [])

-- a page that keeps newlines, or strips them, inside a line
abbrev inside_line : Bool → Script
inside_line strip = record { pieces = escape_pieces (codes "x"); strip_newlines = strip }

pages : roff_page titled [] ≡ codes ".ie \\n(.g .ds Aq \\(aq\n.el .ds Aq '\n.TH app 1 - - \"\"\n"
    × roff_page (title_page (codes "a\\" ∷ codes "1" ∷ codes "-" ∷ codes "-" ∷ [] ∷ [])) [] ≡ codes ".ie \\n(.g .ds Aq \\(aq\n.el .ds Aq '\n.TH a\\\\ 1 - - \"\"\n"
    × roff_page titled (Start block.Block ∷ Text (codes ".x") style.Text ∷ End block.Block ∷ []) ≡ codes ".ie \\n(.g .ds Aq \\(aq\n.el .ds Aq '\n.TH app 1 - - \"\"\n.PP\n\\fR.x\\fP"
    × roff_page titled (Start block.Section2 ∷ Start block.InlineBlock ∷ Text (codes "Title") style.Emphasis ∷ Start block.Section3 ∷ Text (codes "body") style.Text ∷ End block.Section3 ∷ End block.InlineBlock ∷ End block.Section2 ∷ []) ≡ codes ".ie \\n(.g .ds Aq \\(aq\n.el .ds Aq '\n.TH app 1 - - \"\"\n.SS TITLEBODY\n.SS \"\"\n"
    × roff_page titled (Text (codes "A") style.Emphasis ∷ []) ≡ codes ".ie \\n(.g .ds Aq \\(aq\n.el .ds Aq '\n.TH app 1 - - \"\"\n.SS\n\\fBA\\fP"
    × roff_page titled (Start block.Meta ∷ Text (codes "a\n") style.Text ∷ End block.Meta ∷ []) ≡ codes ".ie \\n(.g .ds Aq \\(aq\n.el .ds Aq '\n.TH app 1 - - \"\"\n.nf\n\\fRa\n\\fP\n.fi\n"
    × roff_page titled (Start block.TermRef ∷ Text (codes "x") style.Literal ∷ End block.TermRef ∷ []) ≡ codes ".ie \\n(.g .ds Aq \\(aq\n.el .ds Aq '\n.TH app 1 - - \"\"\n\\fBx\\fP"
    × roff_page titled (End block.Block ∷ []) ≡ codes ".ie \\n(.g .ds Aq \\(aq\n.el .ds Aq '\n.TH app 1 - - \"\"\n"
    × roff_page titled (Start block.ItemBody ∷ []) ≡ codes ".ie \\n(.g .ds Aq \\(aq\n.el .ds Aq '\n.TH app 1 - - \"\"\n"
    × roff_page titled (End block.Section2 ∷ End block.Section2 ∷ []) ≡ codes ".ie \\n(.g .ds Aq \\(aq\n.el .ds Aq '\n.TH app 1 - - \"\"\n.SS \"\"\n.SS \"\"\n"
    × roff_page titled (Start block.Block ∷ Text (codes "'\n.a") style.Text ∷ End block.Block ∷ []) ≡ codes ".ie \\n(.g .ds Aq \\(aq\n.el .ds Aq '\n.TH app 1 - - \"\"\n.PP\n\\fR\\*(Aq\n\\&.a\\fP"
    × roff_page titled (Start block.Block ∷ Start block.Header ∷ Text (codes "SYNOPSIS") style.Text ∷ End block.Header ∷ End block.Block ∷ Start block.Meta ∷ Text (codes "app") style.Literal ∷ Text (codes " ") style.Text ∷ Start block.Mono ∷ Text (codes "COMMAND ...") style.Metavar ∷ End block.Mono ∷ Text (codes "\n") style.Text ∷ Text (codes "app") style.Literal ∷ Text (codes " ") style.Text ∷ Text (codes "run") style.Literal ∷ Text (codes " ") style.Text ∷ Start block.Mono ∷ End block.Mono ∷ Text (codes "\n") style.Text ∷ End block.Meta ∷ Start block.Header ∷ Text (codes "app") style.Literal ∷ Text (codes " ") style.Text ∷ End block.Header ∷ Start block.Header ∷ Text (codes "SYNOPSIS") style.Text ∷ End block.Header ∷ Text (codes "app") style.Literal ∷ Text (codes " ") style.Text ∷ Start block.Mono ∷ Text (codes "COMMAND ...") style.Metavar ∷ End block.Mono ∷ Start block.Block ∷ Start block.Section2 ∷ Text (codes "Available commands:") style.Emphasis ∷ End block.Section2 ∷ Start block.DefinitionList ∷ Start block.ItemTerm ∷ Text (codes "run") style.Literal ∷ End block.ItemTerm ∷ End block.DefinitionList ∷ End block.Block ∷ Start block.Header ∷ Text (codes "app") style.Literal ∷ Text (codes " ") style.Text ∷ Text (codes "run") style.Literal ∷ Text (codes " ") style.Text ∷ End block.Header ∷ Start block.Header ∷ Text (codes "SYNOPSIS") style.Text ∷ End block.Header ∷ Text (codes "app") style.Literal ∷ Text (codes " ") style.Text ∷ Text (codes "run") style.Literal ∷ Text (codes " ") style.Text ∷ Start block.Mono ∷ End block.Mono ∷ []) ≡ codes ".ie \\n(.g .ds Aq \\(aq\n.el .ds Aq '\n.TH app 1 - - \"\"\n.PP\n.SH SYNOPSIS\n.nf\n\\fBapp\\fP\\fR \\fP\\fICOMMAND ...\\fP\\fR\n\\fP\\fBapp\\fP\\fR \\fP\\fBrun\\fP\\fR \\fP\\fR\n\\fP\n.fi\n.SH APP\\ \n.SH SYNOPSIS\n\\fBapp\\fP\\fR \\fP\\fICOMMAND ...\\fP\n.PP\n.SS AVAILABLE\\ COMMANDS:\n.TP\n\\fBrun\\fP\n.SH APP\\ RUN\\ \n.SH SYNOPSIS\n\\fBapp\\fP\\fR \\fP\\fBrun\\fP\\fR \\fP"
    × roff_page titled (Start block.Header ∷ Text (codes "NAME") style.Text ∷ End block.Header ∷ Text (codes "app - ") style.Text ∷ Start block.InlineBlock ∷ Text (codes "Prints things") style.Text ∷ End block.InlineBlock ∷ Start block.Header ∷ Text (codes "SYNOPSIS") style.Text ∷ End block.Header ∷ Text (codes "app") style.Literal ∷ Text (codes " ") style.Text ∷ Start block.Mono ∷ Text (codes "-v") style.Literal ∷ End block.Mono ∷ Start block.Block ∷ Start block.Section2 ∷ Text (codes "Available options:") style.Emphasis ∷ End block.Section2 ∷ Start block.DefinitionList ∷ Start block.ItemTerm ∷ Text (codes "-v") style.Literal ∷ Text (codes ", ") style.Text ∷ Text (codes "--verbose") style.Literal ∷ End block.ItemTerm ∷ Start block.ItemBody ∷ Start block.InlineBlock ∷ Text (codes "Talk more") style.Text ∷ End block.InlineBlock ∷ End block.ItemBody ∷ End block.DefinitionList ∷ End block.Block ∷ []) ≡ codes ".ie \\n(.g .ds Aq \\(aq\n.el .ds Aq '\n.TH app 1 - - \"\"\n.SH NAME\n\\fRapp \\- \\fP\\fRPrints things\\fP\n.SH SYNOPSIS\n\\fBapp\\fP\\fR \\fP\\fB\\-v\\fP\n.PP\n.SS AVAILABLE\\ OPTIONS:\n.TP\n\\fB\\-v\\fP\\fR, \\fP\\fB\\-\\-verbose\\fP\n\\fRTalk more\\fP\n.PP\n"
    × roff_page titled (Start block.ItemTerm ∷ End block.ItemBody ∷ Text (codes "a\nb") style.Text ∷ Start block.ItemTerm ∷ Text (codes "c\nd") style.Literal ∷ End block.ItemTerm ∷ Text (codes "e\nf") style.Text ∷ []) ≡ codes ".ie \\n(.g .ds Aq \\(aq\n.el .ds Aq '\n.TH app 1 - - \"\"\n.TP\n.PP\n\\fRa\nb\\fP\n.TP\n\\fBc d\\fP\n\\fRe\nf\\fP"
    × roff_page titled (Start block.Header ∷ Text (codes "a\n") style.Text ∷ Start block.Section2 ∷ Text (codes "b") style.Literal ∷ End block.Header ∷ Text (codes "c") style.Text ∷ Start block.Header ∷ Text (codes "e") style.Text ∷ Start block.Section4 ∷ End block.Section2 ∷ Text (codes "d\n") style.Text ∷ End block.Block ∷ []) ≡ codes ".ie \\n(.g .ds Aq \\(aq\n.el .ds Aq '\n.TH app 1 - - \"\"\n.SH A\\ B\n\\fRc\\fP\n.SS E\n\\fRd\n\\fP"
    × roff_page titled (Start block.ItemTerm ∷ Text (codes "a") style.Literal ∷ Text (codes "b\n.") style.Emphasis ∷ End block.ItemTerm ∷ End block.ItemTerm ∷ Text (codes "'\n'") style.Metavar ∷ []) ≡ codes ".ie \\n(.g .ds Aq \\(aq\n.el .ds Aq '\n.TH app 1 - - \"\"\n.TP\n\\fBa\\fP\n.SS\n\\fBb .\\fP\n\\fI\\*(Aq\n\\&\\*(Aq\\fP"
pages = (refl, refl, refl, refl, refl, refl, refl, refl, refl, refl, refl, refl, refl, refl, refl, refl)

-- a page that strips newlines, up to the first mark of a term or a body
stripped_or_kept : roff_page (inside_line true) (Text (codes "a\nb") style.Text ∷ End block.ItemBody ∷ Text (codes "a\nb") style.Text ∷ []) ≡ codes ".ie \\n(.g .ds Aq \\(aq\n.el .ds Aq '\nx\\fRa b\\fP\n.PP\n\\fRa\nb\\fP"
    × roff_page (inside_line false) (Text (codes "a\nb") style.Text ∷ Start block.ItemTerm ∷ Text (codes "a\nb") style.Metavar ∷ End block.ItemTerm ∷ Text (codes ".") style.Text ∷ [])
    ≡ codes ".ie \\n(.g .ds Aq \\(aq\n.el .ds Aq '\nx\\fRa\nb\\fP\n.TP\n\\fIa b\\fP\n\\fR.\\fP"
stripped_or_kept = (refl, refl)

-- a text captured after the last section end is written nowhere, and an inner end takes all that was captured
captured : document_pieces true (Start block.Header ∷ Text (codes "a") style.Emphasis ∷ Start block.Section3 ∷ Text (codes "b") style.Text ∷ End block.Section3 ∷ Text (codes "c") style.Text ∷ End block.Header ∷ Start block.Section2 ∷ Text (codes "d") style.Text ∷ [])
    ≡ piece UnescapedAtNewline (codes ".") ∷ piece Unescaped (codes "SS") ∷ piece Unescaped (codes " ") ∷ piece Spaces (codes "AB") ∷ piece UnescapedAtNewline []
    ∷ piece Unescaped (codes "\\fR") ∷ piece SpecialNoNewline (codes "c") ∷ piece Unescaped (codes "\\fP")
    ∷ piece UnescapedAtNewline (codes ".") ∷ piece Unescaped (codes "SH") ∷ piece Unescaped (codes " ") ∷ piece Spaces (codes "\"\"") ∷ piece UnescapedAtNewline [] ∷ []
captured = refl
