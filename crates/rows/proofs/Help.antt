-- Item lists, help pages and pages of applications.
mod Small
mod Pages
