-- What is given for a title line.
use Rattle.description.specs.View.{text_of}
use Rattle.command_pages.specs.Pages.{TitleGiven}
use Rattle.command_pages.specs.declared.given.TitleGiven as of_title

abbrev pub title_said : of_title.TitleGiven → TitleGiven
title_said title = record { date = text_of title.date; vendor = text_of title.vendor }
