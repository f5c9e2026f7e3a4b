-- Pages of small documents: their events, their roff, and what that is read as, computed.
use Rattle.std.specs.Prelude.{◌≡◌, false, [], ◌∷◌, ◌++◌, Some, None, codes, refl}
use Rattle.bpaf_roff.specs.Roff.{control_pieces, rendering}
use Rattle.bpaf_roff.specs.declared.escape.Apostrophes.TheVariants.{Handle}
use Rattle.bpaf_roff.specs.declared.roff.Font.TheVariants.{Roman, Bold, Italic}
use Rattle.bpaf_doc.specs.Buffer.Parts.{Text, Start, End}
use Rattle.bpaf_doc.specs.Manpage.Reader.{Control, Span, LineEnd}
use Rattle.bpaf_doc.specs.Manpage.Events.{page_events}
use Rattle.bpaf_doc.specs.Manpage.Page.{title_event}
use Rattle.bpaf_doc.specs.declared.buffer.Style.TheVariants as style
use Rattle.bpaf_doc.specs.declared.buffer.Block.TheVariants as block
use Rattle.bpaf_doc.proofs.lemmas.Manpage.Program.{read}
use Rattle.bpaf_doc.specs.Manpage.Exact.{document_pieces}

pages_1 : read (codes ".TH app 1 - - \"\"\n") ≡ Some (title_event (codes "app") (codes "1") None None None ∷ [])
    × read (codes ".TH a\\\\ 1 - - \"\"\n") ≡ Some (title_event (codes "a\\") (codes "1") None None None ∷ [])
    × title_event (codes "a\\") (codes "1") None None None ≡ Control (codes "TH") (codes "a\\" ∷ codes "1" ∷ codes "-" ∷ codes "-" ∷ codes "\"\"" ∷ [])
    × page_events (Start block.Block ∷ Text (codes ".x") style.Text ∷ End block.Block ∷ []) ≡ Control (codes "PP") ([]) ∷ Span Roman (codes ".x") ∷ []
    × read (codes ".TH app 1 - - \"\"\n" ++ codes ".PP\n\\fR.x\\fP") ≡ Some (title_event (codes "app") (codes "1") None None None ∷ page_events (Start block.Block ∷ Text (codes ".x") style.Text ∷ End block.Block ∷ []))
    × rendering Handle (control_pieces (codes "TH") (codes "app" ∷ codes "1" ∷ codes "-" ∷ codes "-" ∷ [] ∷ []) ++ document_pieces false (Start block.Block ∷ Text (codes ".x") style.Text ∷ End block.Block ∷ [])) ≡ codes ".ie \\n(.g .ds Aq \\(aq\n.el .ds Aq '\n.TH app 1 - - \"\"\n.PP\n\\fR.x\\fP"
    × page_events (Start block.Section2 ∷ Start block.InlineBlock ∷ Text (codes "Title") style.Emphasis ∷ Start block.Section3 ∷ Text (codes "body") style.Text ∷ End block.Section3 ∷ End block.InlineBlock ∷ End block.Section2 ∷ []) ≡ Control (codes "SS") (codes "TITLEBODY" ∷ []) ∷ Control (codes "SS") (codes "\"\"" ∷ []) ∷ []
    × read (codes ".TH app 1 - - \"\"\n" ++ codes ".SS TITLEBODY\n.SS \"\"\n") ≡ Some (title_event (codes "app") (codes "1") None None None ∷ page_events (Start block.Section2 ∷ Start block.InlineBlock ∷ Text (codes "Title") style.Emphasis ∷ Start block.Section3 ∷ Text (codes "body") style.Text ∷ End block.Section3 ∷ End block.InlineBlock ∷ End block.Section2 ∷ []))
    × rendering Handle (control_pieces (codes "TH") (codes "app" ∷ codes "1" ∷ codes "-" ∷ codes "-" ∷ [] ∷ []) ++ document_pieces false (Start block.Section2 ∷ Start block.InlineBlock ∷ Text (codes "Title") style.Emphasis ∷ Start block.Section3 ∷ Text (codes "body") style.Text ∷ End block.Section3 ∷ End block.InlineBlock ∷ End block.Section2 ∷ [])) ≡ codes ".ie \\n(.g .ds Aq \\(aq\n.el .ds Aq '\n.TH app 1 - - \"\"\n.SS TITLEBODY\n.SS \"\"\n"
    × page_events (Text (codes "A") style.Emphasis ∷ []) ≡ Control (codes "SS") ([]) ∷ Span Bold (codes "A") ∷ []
    × read (codes ".TH app 1 - - \"\"\n" ++ codes ".SS\n\\fBA\\fP") ≡ Some (title_event (codes "app") (codes "1") None None None ∷ page_events (Text (codes "A") style.Emphasis ∷ []))
    × rendering Handle (control_pieces (codes "TH") (codes "app" ∷ codes "1" ∷ codes "-" ∷ codes "-" ∷ [] ∷ []) ++ document_pieces false (Text (codes "A") style.Emphasis ∷ [])) ≡ codes ".ie \\n(.g .ds Aq \\(aq\n.el .ds Aq '\n.TH app 1 - - \"\"\n.SS\n\\fBA\\fP"
pages_1 = (refl, refl, refl, refl, refl, refl, refl, refl, refl, refl, refl, refl)

pages_2 : page_events (Start block.Meta ∷ Text (codes "a\n") style.Text ∷ End block.Meta ∷ []) ≡ Control (codes "nf") ([]) ∷ Span Roman (codes "a\n") ∷ LineEnd ∷ Control (codes "fi") ([]) ∷ []
    × read (codes ".TH app 1 - - \"\"\n" ++ codes ".nf\n\\fRa\n\\fP\n.fi\n") ≡ Some (title_event (codes "app") (codes "1") None None None ∷ page_events (Start block.Meta ∷ Text (codes "a\n") style.Text ∷ End block.Meta ∷ []))
    × rendering Handle (control_pieces (codes "TH") (codes "app" ∷ codes "1" ∷ codes "-" ∷ codes "-" ∷ [] ∷ []) ++ document_pieces false (Start block.Meta ∷ Text (codes "a\n") style.Text ∷ End block.Meta ∷ [])) ≡ codes ".ie \\n(.g .ds Aq \\(aq\n.el .ds Aq '\n.TH app 1 - - \"\"\n.nf\n\\fRa\n\\fP\n.fi\n"
    × page_events (Start block.TermRef ∷ Text (codes "x") style.Literal ∷ End block.TermRef ∷ []) ≡ Span Bold (codes "x") ∷ []
    × read (codes ".TH app 1 - - \"\"\n" ++ codes "\\fBx\\fP") ≡ Some (title_event (codes "app") (codes "1") None None None ∷ page_events (Start block.TermRef ∷ Text (codes "x") style.Literal ∷ End block.TermRef ∷ []))
    × rendering Handle (control_pieces (codes "TH") (codes "app" ∷ codes "1" ∷ codes "-" ∷ codes "-" ∷ [] ∷ []) ++ document_pieces false (Start block.TermRef ∷ Text (codes "x") style.Literal ∷ End block.TermRef ∷ [])) ≡ codes ".ie \\n(.g .ds Aq \\(aq\n.el .ds Aq '\n.TH app 1 - - \"\"\n\\fBx\\fP"
    × page_events (End block.Block ∷ []) ≡ []
    × read (codes ".TH app 1 - - \"\"\n" ++ codes "") ≡ Some (title_event (codes "app") (codes "1") None None None ∷ page_events (End block.Block ∷ []))
    × rendering Handle (control_pieces (codes "TH") (codes "app" ∷ codes "1" ∷ codes "-" ∷ codes "-" ∷ [] ∷ []) ++ document_pieces false (End block.Block ∷ [])) ≡ codes ".ie \\n(.g .ds Aq \\(aq\n.el .ds Aq '\n.TH app 1 - - \"\"\n"
pages_2 = (refl, refl, refl, refl, refl, refl, refl, refl, refl)

pages_3 : page_events (Start block.ItemBody ∷ []) ≡ []
    × read (codes ".TH app 1 - - \"\"\n" ++ codes "") ≡ Some (title_event (codes "app") (codes "1") None None None ∷ page_events (Start block.ItemBody ∷ []))
    × rendering Handle (control_pieces (codes "TH") (codes "app" ∷ codes "1" ∷ codes "-" ∷ codes "-" ∷ [] ∷ []) ++ document_pieces false (Start block.ItemBody ∷ [])) ≡ codes ".ie \\n(.g .ds Aq \\(aq\n.el .ds Aq '\n.TH app 1 - - \"\"\n"
    × page_events (End block.Section2 ∷ End block.Section2 ∷ []) ≡ Control (codes "SS") (codes "\"\"" ∷ []) ∷ Control (codes "SS") (codes "\"\"" ∷ []) ∷ []
    × read (codes ".TH app 1 - - \"\"\n" ++ codes ".SS \"\"\n.SS \"\"\n") ≡ Some (title_event (codes "app") (codes "1") None None None ∷ page_events (End block.Section2 ∷ End block.Section2 ∷ []))
    × rendering Handle (control_pieces (codes "TH") (codes "app" ∷ codes "1" ∷ codes "-" ∷ codes "-" ∷ [] ∷ []) ++ document_pieces false (End block.Section2 ∷ End block.Section2 ∷ [])) ≡ codes ".ie \\n(.g .ds Aq \\(aq\n.el .ds Aq '\n.TH app 1 - - \"\"\n.SS \"\"\n.SS \"\"\n"
    × page_events (Start block.Block ∷ Text (codes "'\n.a") style.Text ∷ End block.Block ∷ []) ≡ Control (codes "PP") ([]) ∷ Span Roman (codes "'\n.a") ∷ []
    × read (codes ".TH app 1 - - \"\"\n" ++ codes ".PP\n\\fR\\*(Aq\n\\&.a\\fP") ≡ Some (title_event (codes "app") (codes "1") None None None ∷ page_events (Start block.Block ∷ Text (codes "'\n.a") style.Text ∷ End block.Block ∷ []))
    × rendering Handle (control_pieces (codes "TH") (codes "app" ∷ codes "1" ∷ codes "-" ∷ codes "-" ∷ [] ∷ []) ++ document_pieces false (Start block.Block ∷ Text (codes "'\n.a") style.Text ∷ End block.Block ∷ [])) ≡ codes ".ie \\n(.g .ds Aq \\(aq\n.el .ds Aq '\n.TH app 1 - - \"\"\n.PP\n\\fR\\*(Aq\n\\&.a\\fP"
    × page_events (Start block.Block ∷ Start block.Header ∷ Text (codes "SYNOPSIS") style.Text ∷ End block.Header ∷ End block.Block ∷ Start block.Meta ∷ Text (codes "app") style.Literal ∷ Text (codes " ") style.Text ∷ Start block.Mono ∷ Text (codes "COMMAND ...") style.Metavar ∷ End block.Mono ∷ Text (codes "\n") style.Text ∷ Text (codes "app") style.Literal ∷ Text (codes " ") style.Text ∷ Text (codes "run") style.Literal ∷ Text (codes " ") style.Text ∷ Start block.Mono ∷ End block.Mono ∷ Text (codes "\n") style.Text ∷ End block.Meta ∷ Start block.Header ∷ Text (codes "app") style.Literal ∷ Text (codes " ") style.Text ∷ End block.Header ∷ Start block.Header ∷ Text (codes "SYNOPSIS") style.Text ∷ End block.Header ∷ Text (codes "app") style.Literal ∷ Text (codes " ") style.Text ∷ Start block.Mono ∷ Text (codes "COMMAND ...") style.Metavar ∷ End block.Mono ∷ Start block.Block ∷ Start block.Section2 ∷ Text (codes "Available commands:") style.Emphasis ∷ End block.Section2 ∷ Start block.DefinitionList ∷ Start block.ItemTerm ∷ Text (codes "run") style.Literal ∷ End block.ItemTerm ∷ End block.DefinitionList ∷ End block.Block ∷ Start block.Header ∷ Text (codes "app") style.Literal ∷ Text (codes " ") style.Text ∷ Text (codes "run") style.Literal ∷ Text (codes " ") style.Text ∷ End block.Header ∷ Start block.Header ∷ Text (codes "SYNOPSIS") style.Text ∷ End block.Header ∷ Text (codes "app") style.Literal ∷ Text (codes " ") style.Text ∷ Text (codes "run") style.Literal ∷ Text (codes " ") style.Text ∷ Start block.Mono ∷ End block.Mono ∷ []) ≡ Control (codes "PP") ([]) ∷ Control (codes "SH") (codes "SYNOPSIS" ∷ []) ∷ Control (codes "nf") ([]) ∷ Span Bold (codes "app") ∷ Span Roman (codes " ") ∷ Span Italic (codes "COMMAND ...") ∷ Span Roman (codes "\n") ∷ Span Bold (codes "app") ∷ Span Roman (codes " ") ∷ Span Bold (codes "run") ∷ Span Roman (codes " ") ∷ Span Roman (codes "\n") ∷ LineEnd ∷ Control (codes "fi") ([]) ∷ Control (codes "SH") (codes "APP " ∷ []) ∷ Control (codes "SH") (codes "SYNOPSIS" ∷ []) ∷ Span Bold (codes "app") ∷ Span Roman (codes " ") ∷ Span Italic (codes "COMMAND ...") ∷ LineEnd ∷ Control (codes "PP") ([]) ∷ Control (codes "SS") (codes "AVAILABLE COMMANDS:" ∷ []) ∷ Control (codes "TP") ([]) ∷ Span Bold (codes "run") ∷ LineEnd ∷ Control (codes "SH") (codes "APP RUN " ∷ []) ∷ Control (codes "SH") (codes "SYNOPSIS" ∷ []) ∷ Span Bold (codes "app") ∷ Span Roman (codes " ") ∷ Span Bold (codes "run") ∷ Span Roman (codes " ") ∷ []
    × read (codes ".TH app 1 - - \"\"\n" ++ codes ".PP\n.SH SYNOPSIS\n.nf\n\\fBapp\\fP\\fR \\fP\\fICOMMAND ...\\fP\\fR\n\\fP\\fBapp\\fP\\fR \\fP\\fBrun\\fP\\fR \\fP\\fR\n\\fP\n.fi\n.SH APP\\ \n.SH SYNOPSIS\n\\fBapp\\fP\\fR \\fP\\fICOMMAND ...\\fP\n.PP\n.SS AVAILABLE\\ COMMANDS:\n.TP\n\\fBrun\\fP\n.SH APP\\ RUN\\ \n.SH SYNOPSIS\n\\fBapp\\fP\\fR \\fP\\fBrun\\fP\\fR \\fP") ≡ Some (title_event (codes "app") (codes "1") None None None ∷ page_events (Start block.Block ∷ Start block.Header ∷ Text (codes "SYNOPSIS") style.Text ∷ End block.Header ∷ End block.Block ∷ Start block.Meta ∷ Text (codes "app") style.Literal ∷ Text (codes " ") style.Text ∷ Start block.Mono ∷ Text (codes "COMMAND ...") style.Metavar ∷ End block.Mono ∷ Text (codes "\n") style.Text ∷ Text (codes "app") style.Literal ∷ Text (codes " ") style.Text ∷ Text (codes "run") style.Literal ∷ Text (codes " ") style.Text ∷ Start block.Mono ∷ End block.Mono ∷ Text (codes "\n") style.Text ∷ End block.Meta ∷ Start block.Header ∷ Text (codes "app") style.Literal ∷ Text (codes " ") style.Text ∷ End block.Header ∷ Start block.Header ∷ Text (codes "SYNOPSIS") style.Text ∷ End block.Header ∷ Text (codes "app") style.Literal ∷ Text (codes " ") style.Text ∷ Start block.Mono ∷ Text (codes "COMMAND ...") style.Metavar ∷ End block.Mono ∷ Start block.Block ∷ Start block.Section2 ∷ Text (codes "Available commands:") style.Emphasis ∷ End block.Section2 ∷ Start block.DefinitionList ∷ Start block.ItemTerm ∷ Text (codes "run") style.Literal ∷ End block.ItemTerm ∷ End block.DefinitionList ∷ End block.Block ∷ Start block.Header ∷ Text (codes "app") style.Literal ∷ Text (codes " ") style.Text ∷ Text (codes "run") style.Literal ∷ Text (codes " ") style.Text ∷ End block.Header ∷ Start block.Header ∷ Text (codes "SYNOPSIS") style.Text ∷ End block.Header ∷ Text (codes "app") style.Literal ∷ Text (codes " ") style.Text ∷ Text (codes "run") style.Literal ∷ Text (codes " ") style.Text ∷ Start block.Mono ∷ End block.Mono ∷ []))
    × rendering Handle (control_pieces (codes "TH") (codes "app" ∷ codes "1" ∷ codes "-" ∷ codes "-" ∷ [] ∷ []) ++ document_pieces false (Start block.Block ∷ Start block.Header ∷ Text (codes "SYNOPSIS") style.Text ∷ End block.Header ∷ End block.Block ∷ Start block.Meta ∷ Text (codes "app") style.Literal ∷ Text (codes " ") style.Text ∷ Start block.Mono ∷ Text (codes "COMMAND ...") style.Metavar ∷ End block.Mono ∷ Text (codes "\n") style.Text ∷ Text (codes "app") style.Literal ∷ Text (codes " ") style.Text ∷ Text (codes "run") style.Literal ∷ Text (codes " ") style.Text ∷ Start block.Mono ∷ End block.Mono ∷ Text (codes "\n") style.Text ∷ End block.Meta ∷ Start block.Header ∷ Text (codes "app") style.Literal ∷ Text (codes " ") style.Text ∷ End block.Header ∷ Start block.Header ∷ Text (codes "SYNOPSIS") style.Text ∷ End block.Header ∷ Text (codes "app") style.Literal ∷ Text (codes " ") style.Text ∷ Start block.Mono ∷ Text (codes "COMMAND ...") style.Metavar ∷ End block.Mono ∷ Start block.Block ∷ Start block.Section2 ∷ Text (codes "Available commands:") style.Emphasis ∷ End block.Section2 ∷ Start block.DefinitionList ∷ Start block.ItemTerm ∷ Text (codes "run") style.Literal ∷ End block.ItemTerm ∷ End block.DefinitionList ∷ End block.Block ∷ Start block.Header ∷ Text (codes "app") style.Literal ∷ Text (codes " ") style.Text ∷ Text (codes "run") style.Literal ∷ Text (codes " ") style.Text ∷ End block.Header ∷ Start block.Header ∷ Text (codes "SYNOPSIS") style.Text ∷ End block.Header ∷ Text (codes "app") style.Literal ∷ Text (codes " ") style.Text ∷ Text (codes "run") style.Literal ∷ Text (codes " ") style.Text ∷ Start block.Mono ∷ End block.Mono ∷ [])) ≡ codes ".ie \\n(.g .ds Aq \\(aq\n.el .ds Aq '\n.TH app 1 - - \"\"\n.PP\n.SH SYNOPSIS\n.nf\n\\fBapp\\fP\\fR \\fP\\fICOMMAND ...\\fP\\fR\n\\fP\\fBapp\\fP\\fR \\fP\\fBrun\\fP\\fR \\fP\\fR\n\\fP\n.fi\n.SH APP\\ \n.SH SYNOPSIS\n\\fBapp\\fP\\fR \\fP\\fICOMMAND ...\\fP\n.PP\n.SS AVAILABLE\\ COMMANDS:\n.TP\n\\fBrun\\fP\n.SH APP\\ RUN\\ \n.SH SYNOPSIS\n\\fBapp\\fP\\fR \\fP\\fBrun\\fP\\fR \\fP"
pages_3 = (refl, refl, refl, refl, refl, refl, refl, refl, refl, refl, refl, refl)

pages_4 : page_events (Start block.Header ∷ Text (codes "NAME") style.Text ∷ End block.Header ∷ Text (codes "app - ") style.Text ∷ Start block.InlineBlock ∷ Text (codes "Prints things") style.Text ∷ End block.InlineBlock ∷ Start block.Header ∷ Text (codes "SYNOPSIS") style.Text ∷ End block.Header ∷ Text (codes "app") style.Literal ∷ Text (codes " ") style.Text ∷ Start block.Mono ∷ Text (codes "-v") style.Literal ∷ End block.Mono ∷ Start block.Block ∷ Start block.Section2 ∷ Text (codes "Available options:") style.Emphasis ∷ End block.Section2 ∷ Start block.DefinitionList ∷ Start block.ItemTerm ∷ Text (codes "-v") style.Literal ∷ Text (codes ", ") style.Text ∷ Text (codes "--verbose") style.Literal ∷ End block.ItemTerm ∷ Start block.ItemBody ∷ Start block.InlineBlock ∷ Text (codes "Talk more") style.Text ∷ End block.InlineBlock ∷ End block.ItemBody ∷ End block.DefinitionList ∷ End block.Block ∷ []) ≡ Control (codes "SH") (codes "NAME" ∷ []) ∷ Span Roman (codes "app - ") ∷ Span Roman (codes "Prints things") ∷ LineEnd ∷ Control (codes "SH") (codes "SYNOPSIS" ∷ []) ∷ Span Bold (codes "app") ∷ Span Roman (codes " ") ∷ Span Bold (codes "-v") ∷ LineEnd ∷ Control (codes "PP") ([]) ∷ Control (codes "SS") (codes "AVAILABLE OPTIONS:" ∷ []) ∷ Control (codes "TP") ([]) ∷ Span Bold (codes "-v") ∷ Span Roman (codes ", ") ∷ Span Bold (codes "--verbose") ∷ LineEnd ∷ Span Roman (codes "Talk more") ∷ LineEnd ∷ Control (codes "PP") ([]) ∷ []
    × read (codes ".TH app 1 - - \"\"\n" ++ codes ".SH NAME\n\\fRapp \\- \\fP\\fRPrints things\\fP\n.SH SYNOPSIS\n\\fBapp\\fP\\fR \\fP\\fB\\-v\\fP\n.PP\n.SS AVAILABLE\\ OPTIONS:\n.TP\n\\fB\\-v\\fP\\fR, \\fP\\fB\\-\\-verbose\\fP\n\\fRTalk more\\fP\n.PP\n") ≡ Some (title_event (codes "app") (codes "1") None None None ∷ page_events (Start block.Header ∷ Text (codes "NAME") style.Text ∷ End block.Header ∷ Text (codes "app - ") style.Text ∷ Start block.InlineBlock ∷ Text (codes "Prints things") style.Text ∷ End block.InlineBlock ∷ Start block.Header ∷ Text (codes "SYNOPSIS") style.Text ∷ End block.Header ∷ Text (codes "app") style.Literal ∷ Text (codes " ") style.Text ∷ Start block.Mono ∷ Text (codes "-v") style.Literal ∷ End block.Mono ∷ Start block.Block ∷ Start block.Section2 ∷ Text (codes "Available options:") style.Emphasis ∷ End block.Section2 ∷ Start block.DefinitionList ∷ Start block.ItemTerm ∷ Text (codes "-v") style.Literal ∷ Text (codes ", ") style.Text ∷ Text (codes "--verbose") style.Literal ∷ End block.ItemTerm ∷ Start block.ItemBody ∷ Start block.InlineBlock ∷ Text (codes "Talk more") style.Text ∷ End block.InlineBlock ∷ End block.ItemBody ∷ End block.DefinitionList ∷ End block.Block ∷ []))
    × rendering Handle (control_pieces (codes "TH") (codes "app" ∷ codes "1" ∷ codes "-" ∷ codes "-" ∷ [] ∷ []) ++ document_pieces false (Start block.Header ∷ Text (codes "NAME") style.Text ∷ End block.Header ∷ Text (codes "app - ") style.Text ∷ Start block.InlineBlock ∷ Text (codes "Prints things") style.Text ∷ End block.InlineBlock ∷ Start block.Header ∷ Text (codes "SYNOPSIS") style.Text ∷ End block.Header ∷ Text (codes "app") style.Literal ∷ Text (codes " ") style.Text ∷ Start block.Mono ∷ Text (codes "-v") style.Literal ∷ End block.Mono ∷ Start block.Block ∷ Start block.Section2 ∷ Text (codes "Available options:") style.Emphasis ∷ End block.Section2 ∷ Start block.DefinitionList ∷ Start block.ItemTerm ∷ Text (codes "-v") style.Literal ∷ Text (codes ", ") style.Text ∷ Text (codes "--verbose") style.Literal ∷ End block.ItemTerm ∷ Start block.ItemBody ∷ Start block.InlineBlock ∷ Text (codes "Talk more") style.Text ∷ End block.InlineBlock ∷ End block.ItemBody ∷ End block.DefinitionList ∷ End block.Block ∷ [])) ≡ codes ".ie \\n(.g .ds Aq \\(aq\n.el .ds Aq '\n.TH app 1 - - \"\"\n.SH NAME\n\\fRapp \\- \\fP\\fRPrints things\\fP\n.SH SYNOPSIS\n\\fBapp\\fP\\fR \\fP\\fB\\-v\\fP\n.PP\n.SS AVAILABLE\\ OPTIONS:\n.TP\n\\fB\\-v\\fP\\fR, \\fP\\fB\\-\\-verbose\\fP\n\\fRTalk more\\fP\n.PP\n"
    × page_events (Start block.ItemTerm ∷ End block.ItemBody ∷ Text (codes "a\nb") style.Text ∷ Start block.ItemTerm ∷ Text (codes "c\nd") style.Literal ∷ End block.ItemTerm ∷ Text (codes "e\nf") style.Text ∷ []) ≡ Control (codes "TP") ([]) ∷ Control (codes "PP") ([]) ∷ Span Roman (codes "a\nb") ∷ LineEnd ∷ Control (codes "TP") ([]) ∷ Span Bold (codes "c d") ∷ LineEnd ∷ Span Roman (codes "e\nf") ∷ []
    × read (codes ".TH app 1 - - \"\"\n" ++ codes ".TP\n.PP\n\\fRa\nb\\fP\n.TP\n\\fBc d\\fP\n\\fRe\nf\\fP") ≡ Some (title_event (codes "app") (codes "1") None None None ∷ page_events (Start block.ItemTerm ∷ End block.ItemBody ∷ Text (codes "a\nb") style.Text ∷ Start block.ItemTerm ∷ Text (codes "c\nd") style.Literal ∷ End block.ItemTerm ∷ Text (codes "e\nf") style.Text ∷ []))
    × rendering Handle (control_pieces (codes "TH") (codes "app" ∷ codes "1" ∷ codes "-" ∷ codes "-" ∷ [] ∷ []) ++ document_pieces false (Start block.ItemTerm ∷ End block.ItemBody ∷ Text (codes "a\nb") style.Text ∷ Start block.ItemTerm ∷ Text (codes "c\nd") style.Literal ∷ End block.ItemTerm ∷ Text (codes "e\nf") style.Text ∷ [])) ≡ codes ".ie \\n(.g .ds Aq \\(aq\n.el .ds Aq '\n.TH app 1 - - \"\"\n.TP\n.PP\n\\fRa\nb\\fP\n.TP\n\\fBc d\\fP\n\\fRe\nf\\fP"
    × page_events (Start block.Header ∷ Text (codes "a\n") style.Text ∷ Start block.Section2 ∷ Text (codes "b") style.Literal ∷ End block.Header ∷ Text (codes "c") style.Text ∷ Start block.Header ∷ Text (codes "e") style.Text ∷ Start block.Section4 ∷ End block.Section2 ∷ Text (codes "d\n") style.Text ∷ End block.Block ∷ []) ≡ Control (codes "SH") (codes "A B" ∷ []) ∷ Span Roman (codes "c") ∷ LineEnd ∷ Control (codes "SS") (codes "E" ∷ []) ∷ Span Roman (codes "d\n") ∷ []
    × read (codes ".TH app 1 - - \"\"\n" ++ codes ".SH A\\ B\n\\fRc\\fP\n.SS E\n\\fRd\n\\fP") ≡ Some (title_event (codes "app") (codes "1") None None None ∷ page_events (Start block.Header ∷ Text (codes "a\n") style.Text ∷ Start block.Section2 ∷ Text (codes "b") style.Literal ∷ End block.Header ∷ Text (codes "c") style.Text ∷ Start block.Header ∷ Text (codes "e") style.Text ∷ Start block.Section4 ∷ End block.Section2 ∷ Text (codes "d\n") style.Text ∷ End block.Block ∷ []))
    × rendering Handle (control_pieces (codes "TH") (codes "app" ∷ codes "1" ∷ codes "-" ∷ codes "-" ∷ [] ∷ []) ++ document_pieces false (Start block.Header ∷ Text (codes "a\n") style.Text ∷ Start block.Section2 ∷ Text (codes "b") style.Literal ∷ End block.Header ∷ Text (codes "c") style.Text ∷ Start block.Header ∷ Text (codes "e") style.Text ∷ Start block.Section4 ∷ End block.Section2 ∷ Text (codes "d\n") style.Text ∷ End block.Block ∷ [])) ≡ codes ".ie \\n(.g .ds Aq \\(aq\n.el .ds Aq '\n.TH app 1 - - \"\"\n.SH A\\ B\n\\fRc\\fP\n.SS E\n\\fRd\n\\fP"
    × page_events (Start block.ItemTerm ∷ Text (codes "a") style.Literal ∷ Text (codes "b\n.") style.Emphasis ∷ End block.ItemTerm ∷ End block.ItemTerm ∷ Text (codes "'\n'") style.Metavar ∷ []) ≡ Control (codes "TP") ([]) ∷ Span Bold (codes "a") ∷ LineEnd ∷ Control (codes "SS") ([]) ∷ Span Bold (codes "b .") ∷ LineEnd ∷ Span Italic (codes "'\n'") ∷ []
    × read (codes ".TH app 1 - - \"\"\n" ++ codes ".TP\n\\fBa\\fP\n.SS\n\\fBb .\\fP\n\\fI\\*(Aq\n\\&\\*(Aq\\fP") ≡ Some (title_event (codes "app") (codes "1") None None None ∷ page_events (Start block.ItemTerm ∷ Text (codes "a") style.Literal ∷ Text (codes "b\n.") style.Emphasis ∷ End block.ItemTerm ∷ End block.ItemTerm ∷ Text (codes "'\n'") style.Metavar ∷ []))
    × rendering Handle (control_pieces (codes "TH") (codes "app" ∷ codes "1" ∷ codes "-" ∷ codes "-" ∷ [] ∷ []) ++ document_pieces false (Start block.ItemTerm ∷ Text (codes "a") style.Literal ∷ Text (codes "b\n.") style.Emphasis ∷ End block.ItemTerm ∷ End block.ItemTerm ∷ Text (codes "'\n'") style.Metavar ∷ [])) ≡ codes ".ie \\n(.g .ds Aq \\(aq\n.el .ds Aq '\n.TH app 1 - - \"\"\n.TP\n\\fBa\\fP\n.SS\n\\fBb .\\fP\n\\fI\\*(Aq\n\\&\\*(Aq\\fP"
    × read (codes ".TH a\\ b\\\\ 3\"x - \"\" T\\ \n.SH SYNOPSIS\n\\fBa b\\\\\\fP\\fR \\fP") ≡ Some (title_event (codes "a b\\") (codes "3\"x") None (Some []) (Some (codes "T\n")) ∷ page_events (Start block.Header ∷ Text (codes "SYNOPSIS") style.Text ∷ End block.Header ∷ Text (codes "a b\\") style.Literal ∷ Text (codes " ") style.Text ∷ Start block.Mono ∷ End block.Mono ∷ []))
    × read (codes ".TH a\\ b\\\\ 3\"x - \"\" T\\ \n.SH SYNOPSIS\n\\fBa b\\\\\\fP\\fR \\fP") ≡ Some (Control (codes "TH") (codes "a b\\" ∷ codes "3\"x" ∷ codes "-" ∷ codes "\"\"" ∷ codes "T " ∷ []) ∷ Control (codes "SH") (codes "SYNOPSIS" ∷ []) ∷ Span Bold (codes "a b\\") ∷ Span Roman (codes " ") ∷ [])
pages_4 = (refl, refl, refl, refl, refl, refl, refl, refl, refl, refl, refl, refl, refl, refl)

refused_texts : read (codes "\\fRa") ≡ None
    × read (codes "a") ≡ None
    × read (codes "\n") ≡ None
    × read (codes ".x") ≡ None
    × read (codes ".x a  b\n") ≡ None
    × read (codes ".x a\\b\n") ≡ None
    × read (codes "\\fRa\n.b\\fP") ≡ None
    × read (codes "\\fRa-b\\fP") ≡ None
    × read (codes "\\fRa'b\\fP") ≡ None
    × read (codes "\\fRa\\fP.x\n") ≡ None
    × read (codes "\\fXa\\fP") ≡ None
    × read (codes ".x a \n") ≡ None
    × read (codes "\\fRa\\ b\\fP") ≡ None
refused_texts = (refl, refl, refl, refl, refl, refl, refl, refl, refl, refl, refl, refl, refl)
