-- What a title line says.
use Rattle.man_page.specs.Kept.{TitleSaid}
use Rattle.man_page.specs.declared.page.TitleLine.{TitleLine}

abbrev pub title_of : TitleLine → TitleSaid
title_of title = record {
  name = title.name.now;
  section = title.section.now;
  date = title.date.now;
  vendor = title.vendor.now;
  title = title.title.now;
}
