-- The syntax of an option: pieces, names and brackets.
use Rattle.std.specs.Prelude.{◌≡◌, true, false, [], ◌∷◌, refl, codes}
use Rattle.description_toml.specs.Syntax.{are_paired, pieces, syntax_names}

-- the parts that commas outside brackets separate
cut_pieces : pieces (codes "-a , --b[=X,Y],c") ≡ codes "-a " ∷ codes " --b[=X,Y]" ∷ codes "c" ∷ []
cut_pieces = refl

-- the names that count
counted : syntax_names (codes "-e, --[no-]edit, -x[-y], -vf|--vf") ≡ codes "-e" ∷ codes "--edit" ∷ codes "-x" ∷ codes "-vf" ∷ codes "--vf" ∷ []
counted = refl

-- brackets in pairs
brackets : are_paired (codes "-a ([{<X>}])") ≡ true
    × are_paired (codes "-a ([)]") ≡ false
    × are_paired (codes "]X[") ≡ false
brackets = (refl, refl, refl)
