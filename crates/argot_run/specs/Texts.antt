-- The lines that an answer consists of.
use Rattle.std.specs.Prelude.{ℕ, List, ◌++◌, codes}

abbrev pub usage_line : List ℕ
usage_line =
    codes "argot: usage: argot taint|backtrace|escape [-config FILE] [-workers N] DIR, or argot trial [-workers N] COUNT\n"

abbrev pub no_main_line : List ℕ
no_main_line = codes "argot: no main function in folder .\n"

abbrev pub not_first_form_line : List ℕ
not_first_form_line = codes "argot: not of the first form\n"

abbrev pub cannot_list_line : List ℕ → List ℕ
cannot_list_line dir = codes "argot: cannot list " ++ dir ++ codes "\n"

abbrev pub cannot_read_line : List ℕ → List ℕ
cannot_read_line path = codes "argot: cannot read " ++ path ++ codes "\n"
