use Rattle.html_page.proofs.lines.put_block.Goals as goal

pub returns-in-List : goal.returns-in-List
returns-in-List g c = rw c.in-List.is (rw c.as_slice-in-List.ensures.value at c.put_list.ensures)
