-- Which lines begin a block: `here` is the line, `next` the one below it.
use Rattle.std.specs.Prelude.{ℕ, Bool, true, false, not, ◌||◌, ◌&&◌, ◌-◌, Option, Some, None, if◌then◌else◌, nat_lt, nat_le}
use Rattle.help_blocks.specs.declared.shape.Shape.{Shape}
use Rattle.help_blocks.specs.declared.place.Kind.{Kind}
use Rattle.help_blocks.specs.declared.place.Kind.TheVariants as kind
use Rattle.help_blocks.specs.declared.place.Open.{Open}
use Rattle.help_blocks.specs.declared.place.Place.{Place}
use Rattle.help_blocks.specs.declared.subject.Subject.{Subject}
use Rattle.help_blocks.specs.declared.subject.Subject.TheVariants as subject

abbrev pub is_entry : Kind → Bool
is_entry kind.Option = true
is_entry kind.Command = true
is_entry kind.Value = true
is_entry _ = false

abbrev pub is_deeper : Open → (here : Shape) → Bool
is_deeper o here = nat_lt o.indent here.indent

-- more than six columns
abbrev pub is_far : Open → (here : Shape) → Bool
is_far o here = nat_lt 6 (here.indent - o.indent)

abbrev pub is_at_help : (help : Option ℕ) → (here : Shape) → Bool
is_at_help None here = false
is_at_help (Some n) here = nat_le n here.indent

-- Below an entry all that is indented deeper is its help. But an option is one of the list, if it is not far from the
-- entry's front, and not where the help stands; and a word below commands in braces is a command, if it is not far.
abbrev pub is_help : Open → (help : Option ℕ) → (here : Shape) → Bool
is_help o help here =
    if here.is_option then is_far o here || is_at_help help here
    else not (o.is_choice && here.is_word) || is_far o here

-- A usage goes on with lines that are indented deeper, but not with an option that is not far.
abbrev pub is_usage_still : Open → (here : Shape) → Bool
is_usage_still o here = (is_deeper o here && not here.is_usage) && (is_far o here || not here.is_option)

abbrev pub is_below_title : (title : Option ℕ) → (here : Shape) → Bool
is_below_title None here = false
is_below_title (Some n) here = nat_lt n here.indent

abbrev pub is_in_choice : Option Open → (here : Shape) → Bool
is_in_choice None here = false
is_in_choice (Some o) here = o.is_choice && is_deeper o here

abbrev pub is_title_kind : Kind → Bool
is_title_kind kind.Title = true
is_title_kind _ = false

abbrev pub is_in_list : Option Open → Bool
is_in_list None = false
is_in_list (Some o) = is_entry o.kind || is_title_kind o.kind

abbrev pub is_command_kind : Kind → Bool
is_command_kind kind.Command = true
is_command_kind _ = false

-- a word directly below a command, at its indent
abbrev pub is_further_command : Option Open → (here : Shape) → Bool
is_further_command None here = false
is_further_command (Some o) here = (is_command_kind o.kind && here.is_word) && nat_le o.indent here.indent

abbrev pub listed_value : Option Open → Option Kind
listed_value o = if is_in_list o then Some kind.Value else None

abbrev pub leads : (here next : Shape) → Bool
leads here next = nat_lt here.indent next.indent && not next.is_empty

-- an option right below; or below an empty line, unless a small word begins this line, as one of a text
abbrev pub is_above_option : (here next : Shape) → Bool
is_above_option here next = next.is_option && not (next.is_empty && here.is_word)

-- a title without a colon: a line after an empty one, with an option or columns below
-- it, indented deeper; in capitals with anything below it
abbrev pub is_plain_title : (is_after_blank : Bool) → (here next : Shape) → Bool
is_plain_title after here next = (after && leads here next) && ((next.is_option || next.is_code) || here.is_in_capitals)

abbrev pub listed_by : Subject → Place → (here : Shape) → Option Kind
listed_by subject.Commands p here = if here.is_word then Some kind.Command else None
listed_by subject.Values p here = listed_value p.block
listed_by subject.Examples p here = Some kind.Code
listed_by subject.Options p here = None
listed_by subject.Unsaid p here = None

-- below a title, and indented deeper: what its subject says
abbrev pub listed : Place → (here : Shape) → Option Kind
listed p here =
    if is_below_title p.title here then (if here.is_choice then Some kind.Value else listed_by p.subject p here)
    else None

abbrev pub plain_kind : Place → (here next : Shape) → Kind
plain_kind p here next =
    if is_plain_title p.is_after_blank here next then kind.Title
    else if here.is_code then kind.Code
    else kind.Text

abbrev pub or_kind : Option Kind → (otherwise : Kind) → Kind
or_kind None k = k
or_kind (Some k) _ = k

abbrev pub unmarked_kind : Place → (here next : Shape) → Kind
unmarked_kind p here next = or_kind (listed p here) (plain_kind p here next)

-- the kind of block that a line begins, if it begins one
abbrev pub kind_of : Place → (here next : Shape) → Kind
kind_of p here next =
    if here.is_empty then kind.Text
    else if here.is_usage then kind.Usage
    else if here.is_option then kind.Option
    else if is_in_choice p.block here || is_further_command p.block here then kind.Command
    else if here.ends_with_colon && (p.is_after_blank || (leads here next || is_above_option here next)) then kind.Title
    else unmarked_kind p here next

abbrev pub is_text : Kind → Bool
is_text kind.Text = true
is_text _ = false

abbrev pub is_code : Kind → Bool
is_code kind.Code = true
is_code _ = false

-- options right below others that are typed are, too
abbrev pub goes_on_by : (open_kind here_kind : Kind) → Open → (here : Shape) → Bool
goes_on_by kind.Usage k o here = is_usage_still o here
goes_on_by kind.Text k o here = is_text k
goes_on_by kind.Code k o here = is_code k || (o.is_typed && here.is_option)
goes_on_by _ k o here = false

abbrev pub goes_on_directly : Open → Place → (here next : Shape) → Bool
goes_on_directly o p here next = goes_on_by o.kind (kind_of p here next) o here

abbrev pub goes_on_with : Option Open → Place → (here next : Shape) → Bool
goes_on_with None p here next = false
goes_on_with (Some o) p here next =
    if here.is_empty then true
    else if is_entry o.kind && is_deeper o here then is_help o p.help here
    else if p.is_after_blank then false
    else goes_on_directly o p here next

-- whether a line belongs to the block of the line above
abbrev pub goes_on : Place → (here next : Shape) → Bool
goes_on p here next = goes_on_with p.block p here next

abbrev pub begun : Place → (here next : Shape) → Option Kind
begun p here next = if goes_on p here next then None else Some (kind_of p here next)
