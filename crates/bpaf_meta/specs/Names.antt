-- Short and long names, and how they are written.
use Rattle.std.specs.Prelude.{◌≡◌, ℕ, ◌⊎◌, List, [], ◌∷◌, ◌++◌, Option, Some, None, codes, encode_utf8}
use Rattle.bpaf_meta.specs.Content.{Name, short, long, both}

-- `-` and the character; `--` and the name
abbrev pub short_text : ℕ → List ℕ
short_text c = codes "-" ++ encode_utf8 c

abbrev pub long_text : List ℕ → List ℕ
long_text name = codes "--" ++ name

abbrev pub short_name : Name → Option ℕ
short_name (short c) = Some c
short_name (long n) = None
short_name (both c n) = Some c

abbrev pub long_name : Name → Option (List ℕ)
long_name (short c) = None
long_name (long n) = Some n
long_name (both c n) = Some n

-- the text is one of the forms in which the name is written
abbrev pub IsFormOf : Name → List ℕ → Type 0
IsFormOf (short c) text = text ≡ short_text c
IsFormOf (long n) text = text ≡ long_text n
IsFormOf (both c n) text = (text ≡ short_text c) ⊎ (text ≡ long_text n)

-- the first short name and the first long one, where there are any
abbrev pub first_names : List ℕ → List (List ℕ) → Option Name
first_names [] [] = None
first_names [] (n ∷ ns) = Some (long n)
first_names (c ∷ cs) [] = Some (short c)
first_names (c ∷ cs) (n ∷ ns) = Some (both c n)
