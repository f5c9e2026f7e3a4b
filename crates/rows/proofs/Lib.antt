mod Roff
mod Doc
mod Trees
mod Help
mod Syntax
