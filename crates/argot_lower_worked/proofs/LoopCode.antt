-- The code of the functions, step by step.
use Rattle.std.specs.Prelude.{[], ◌∷◌, ◌++◌, refl, replicate}
use Rattle.std.specs.Fmt.{digits}
use Rattle.argot_typed.specs.Leaves.{leaves_of}
use Rattle.argot_lower_scripts.specs.Says.{says_done, says_take, says_emit, says_now, says_until, says_part, says_sets, says_gets}
use Rattle.argot_lower_program.specs.Functions.{OfEntry, OfText}
use Rattle.argot_lower_worked.specs.Words.{point}
use Rattle.argot_lower_worked.specs.Loop.{IsSaid, IsLowered, IsNamed, function_1}

said_0 : IsSaid 0 (OfEntry) [] (point 0 0 0 0 0 (replicate 47 0 ++ [])) (point 5 3 0 0 0 (replicate 47 0 ++ []))
unfolding leaves_of
said_0 = says_until {qs = []} {d = point 1 1 0 0 0 (replicate 47 0 ++ [])}
    (says_emit (record { is = refl })
    (says_done)) (record { is = refl })
    (says_now (record { is = refl })
    (says_until {qs = []} {d = point 2 3 0 0 0 (replicate 47 0 ++ [])}
    (says_emit (record { is = refl })
    (says_done)) (record { is = refl })
    (says_emit (record { is = refl })
    (says_emit (record { is = refl })
    (says_emit (record { is = refl })
    (says_done))))))

said_1 : IsSaid 1 (OfText 2) [] (point 5 3 0 0 0 (replicate 47 0 ++ [])) (point 20 9 8 0 0 (replicate 46 0 ++ (2 ∷ [])))
unfolding leaves_of
said_1 = says_until {qs = []} {d = point 6 4 0 0 0 (replicate 47 0 ++ [])}
    (says_emit (record { is = refl })
    (says_done)) (record { is = refl })
    (says_until {qs = []} {d = point 18 9 8 0 0 (replicate 46 0 ++ (2 ∷ []))}
    (says_part {qs = []} {d = point 18 9 8 0 0 (replicate 46 0 ++ (2 ∷ []))} refl
    (says_part {qs = []} {d = point 8 5 2 0 0 (replicate 47 0 ++ [])} refl
    (says_take (record { fn = function_1; is = refl; has = refl })
    (says_sets
    (says_part {qs = (1 ∷ [])} {d = point 7 5 2 0 0 (replicate 47 0 ++ [])} refl
    (says_take (record { fn = function_1; is = refl; has = refl })
    (says_emit (record { is = refl })
    (says_done)))
    (says_emit (record { is = refl })
    (says_done)))))
    (says_part {qs = []} {d = point 18 9 8 0 0 (replicate 46 0 ++ (2 ∷ []))} refl
    (says_part {qs = []} {d = point 10 5 4 0 0 (replicate 46 0 ++ (2 ∷ []))} refl
    (says_part {qs = []} {d = point 10 5 4 0 0 (replicate 46 0 ++ (2 ∷ []))} refl
    (says_take (record { fn = function_1; is = refl; has = refl })
    (says_sets
    (says_part {qs = (3 ∷ [])} {d = point 9 5 4 0 0 (replicate 46 0 ++ (2 ∷ []))} refl
    (says_take (record { fn = function_1; is = refl; has = refl })
    (says_emit (record { is = refl })
    (says_done)))
    (says_emit (record { is = refl })
    (says_done)))))
    (says_done))
    (says_now (record { is = refl })
    (says_until {qs = []} {d = point 18 9 8 0 0 (replicate 46 0 ++ (2 ∷ []))}
    (says_part {qs = (5 ∷ [])} {d = point 12 7 6 0 0 (replicate 46 0 ++ (2 ∷ []))} refl
    (says_part {qs = (2 ∷ [])} {d = point 10 7 4 0 0 (replicate 46 0 ++ (2 ∷ []))} refl
    (says_gets
    (says_done))
    (says_part {qs = (4 ∷ [])} {d = point 11 7 5 0 0 (replicate 46 0 ++ (2 ∷ []))} refl
    (says_take (record { fn = function_1; is = refl; has = refl })
    (says_emit (record { is = refl })
    (says_done)))
    (says_take (record { fn = function_1; is = refl; has = refl })
    (says_emit (record { is = refl })
    (says_done)))))
    (says_until {qs = []} {d = point 13 8 6 0 0 (replicate 46 0 ++ (2 ∷ []))}
    (says_emit (record { is = refl })
    (says_done)) (record { is = refl })
    (says_until {qs = []} {d = point 15 9 7 0 0 (replicate 46 0 ++ (2 ∷ []))}
    (says_part {qs = []} {d = point 15 9 7 0 0 (replicate 46 0 ++ (2 ∷ []))} refl
    (says_part {qs = []} {d = point 15 9 7 0 0 (replicate 46 0 ++ (2 ∷ []))} refl
    (says_gets
    (says_part {qs = (2 ∷ [])} {d = point 13 9 6 0 0 (replicate 46 0 ++ (2 ∷ []))} refl
    (says_gets
    (says_done))
    (says_take (record { fn = function_1; is = refl; has = refl })
    (says_emit (record { is = refl })
    (says_emit (record { is = refl })
    (says_done))))))
    (says_done))
    (says_done)) (record { is = refl })
    (says_part {qs = []} {d = point 17 9 8 0 0 (replicate 46 0 ++ (2 ∷ []))} refl
    (says_part {qs = []} {d = point 17 9 8 0 0 (replicate 46 0 ++ (2 ∷ []))} refl
    (says_gets
    (says_take (record { fn = function_1; is = refl; has = refl })
    (says_emit (record { is = refl })
    (says_emit (record { is = refl })
    (says_done)))))
    (says_done))
    (says_emit (record { is = refl })
    (says_done)))))) (record { is = refl })
    (says_done))))
    (says_part {qs = []} {d = point 18 9 8 0 0 (replicate 46 0 ++ (2 ∷ []))} refl
    (says_part {qs = (0 ∷ [])} {d = point 18 9 8 0 0 (replicate 46 0 ++ (2 ∷ []))} refl
    (says_gets
    (says_done))
    (says_done))
    (says_done))))
    (says_done)) (record { is = refl })
    (says_emit (record { is = refl })
    (says_emit (record { is = refl })
    (says_done))))

pub lowered : IsLowered
lowered = (said_0, said_1)

pub named : IsNamed
unfolding digits
named = (refl, refl, refl, refl)
