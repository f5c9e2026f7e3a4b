mod Texts
mod Trees
