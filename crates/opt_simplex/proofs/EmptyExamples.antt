-- Systems whose box an outside program of the same rule found empty.
use Rattle.std.proofs.Common.{◌≡◌, [], ◌∷◌, pos, refl}
use Rattle.opt_system.specs.Systems.{System}
use Rattle.opt_frac.specs.Divisors.{gcd}
use Rattle.opt_frac.specs.Equations.{lowest}
use Rattle.opt_frac.specs.Elimination.{solution_for, elimination}
use Rattle.opt_simplex.specs.Pivot.{next_tableau}
use Rattle.opt_simplex.specs.Rule.{end_of}
use Rattle.opt_simplex.proofs.ExampleSystems.{system, least, equal, minus, multipliers}
use Rattle.opt_simplex.specs.declared.end.LpEnd.TheVariants.{Empty}

system_2 : System
system_2 =
    system (pos 0 ∷ pos 0 ∷ []) (pos 20 ∷ pos 100 ∷ []) (pos 0 ∷ pos 17 ∷ [])
    (
    equal (minus 219) ((0, minus 3) ∷ (1, minus 2) ∷ []) ∷
    least (minus 231) ((1, minus 3) ∷ []) ∷
    []
    )

end_2 : end_of system_2 system_2.root 20000 ≡ Empty (multipliers (pos 0) ((0, minus 3) ∷ (1, pos 2) ∷ [])) 2
unfolding system_2 gcd lowest solution_for elimination next_tableau
end_2 = refl

system_8 : System
system_8 =
    system (pos 1 ∷ pos 0 ∷ pos 3 ∷ pos 3 ∷ pos 1 ∷ pos 0 ∷ pos 0 ∷ pos 0 ∷ pos 0 ∷ [])
    (pos 2 ∷ pos 5 ∷ pos 12 ∷ pos 5 ∷ pos 1 ∷ pos 20 ∷ pos 0 ∷ pos 100 ∷ pos 1 ∷ []) (pos 1 ∷ pos 2 ∷ pos 0 ∷ pos 1 ∷ pos 0 ∷ pos 1 ∷ pos 0 ∷ pos 17 ∷ pos 2 ∷ [])
    (
    least (minus 1) ((0, minus 7) ∷ (1, pos 10) ∷ (2, pos 1) ∷ (6, pos 360) ∷ (8, pos 1) ∷ []) ∷
    least (pos 86) ((1, pos 2) ∷ (2, minus 3) ∷ (7, pos 1) ∷ []) ∷
    least (minus 101) ((0, minus 3) ∷ (1, pos 10) ∷ (2, pos 10) ∷ (3, pos 10) ∷ (4, minus 3) ∷ (5, minus 7) ∷ (6, minus 7) ∷ (7, minus 2) ∷ (8, minus 2) ∷ []) ∷
    least (pos 3031) ((0, minus 3) ∷ (1, minus 3) ∷ (2, pos 360) ∷ (3, minus 1) ∷ (4, pos 3) ∷ (5, minus 1) ∷ (7, minus 3) ∷ (8, pos 2) ∷ []) ∷
    least (pos 1800) ((1, pos 360) ∷ (4, pos 360) ∷ []) ∷
    []
    )

end_8 : end_of system_8 system_8.root 20000 ≡ Empty (multipliers (pos 0) ((1, pos 120) ∷ (3, pos 1) ∷ [])) 6
unfolding system_8 gcd lowest solution_for elimination next_tableau
end_8 = refl

system_12 : System
system_12 =
    system (pos 3 ∷ pos 1 ∷ pos 0 ∷ []) (pos 4 ∷ pos 1 ∷ pos 2 ∷ []) (pos 1 ∷ pos 1 ∷ pos 0 ∷ [])
    (
    equal (minus 1) ((1, minus 1) ∷ (2, minus 1) ∷ []) ∷
    equal (pos 12) ((0, pos 3) ∷ (1, pos 5) ∷ (2, minus 1) ∷ []) ∷
    least (minus 5) ((1, pos 1) ∷ (2, minus 2) ∷ []) ∷
    []
    )

end_12 : end_of system_12 system_12.root 20000 ≡ Empty (multipliers (pos 0) ((0, pos 1) ∷ (1, minus 1) ∷ [])) 1
unfolding system_12 gcd lowest solution_for elimination next_tableau
end_12 = refl

system_17 : System
system_17 =
    system (pos 0 ∷ pos 0 ∷ pos 0 ∷ pos 0 ∷ pos 0 ∷ []) (pos 9 ∷ pos 5 ∷ pos 9 ∷ pos 20 ∷ pos 5 ∷ []) (pos 0 ∷ pos 5 ∷ pos 2 ∷ pos 0 ∷ pos 2 ∷ [])
    (
    equal (pos 35) ((0, minus 3) ∷ (1, pos 2) ∷ (2, pos 10) ∷ (3, minus 1) ∷ (4, minus 1) ∷ []) ∷
    least (minus 13) ((0, minus 1) ∷ (1, minus 1) ∷ []) ∷
    least (pos 2511) ((0, pos 1) ∷ (1, pos 5) ∷ (2, pos 360) ∷ (3, minus 1) ∷ (4, pos 1) ∷ []) ∷
    least (minus 64) ((0, pos 5) ∷ (2, minus 1) ∷ (3, minus 7) ∷ (4, pos 5) ∷ []) ∷
    least (minus 42) ((1, pos 1) ∷ (2, minus 7) ∷ (3, minus 3) ∷ (4, pos 3) ∷ []) ∷
    least (pos 14) ((0, minus 2) ∷ (2, pos 1) ∷ (3, pos 2) ∷ []) ∷
    equal (pos 35) ((0, pos 5) ∷ []) ∷
    []
    )

end_17 : end_of system_17 system_17.root 20000
    ≡ Empty (multipliers (pos 0) ((0, minus 2163) ∷ (2, pos 107) ∷ (4, pos 2884) ∷ (5, pos 3298) ∷ [])) 5
unfolding system_17 gcd lowest solution_for elimination next_tableau
end_17 = refl

system_22 : System
system_22 =
    system (pos 0 ∷ pos 0 ∷ pos 1 ∷ pos 0 ∷ pos 0 ∷ pos 0 ∷ [])
    (pos 1 ∷ pos 5 ∷ pos 6 ∷ pos 5 ∷ pos 2 ∷ pos 0 ∷ []) (pos 1 ∷ pos 0 ∷ pos 5 ∷ pos 17 ∷ pos 2 ∷ pos 2 ∷ [])
    (
    least (pos 4) ((1, pos 5) ∷ (5, minus 2) ∷ []) ∷
    least (pos 363) ((1, pos 2) ∷ (3, minus 1) ∷ (4, pos 360) ∷ []) ∷
    equal (pos 362) ((0, pos 360) ∷ (1, pos 2) ∷ (2, pos 1) ∷ (3, pos 5) ∷ (4, minus 3) ∷ (5, pos 5) ∷ []) ∷
    equal (pos 54) ((0, pos 2) ∷ (2, pos 10) ∷ (3, pos 1) ∷ (4, minus 1) ∷ (5, pos 2) ∷ []) ∷
    least (minus 14) ((0, pos 1) ∷ (2, pos 1) ∷ (3, minus 7) ∷ (4, minus 3) ∷ []) ∷
    least (pos 50) ((2, pos 10) ∷ (4, pos 10) ∷ (5, pos 10) ∷ []) ∷
    equal (pos 2165) ((2, pos 360) ∷ (3, pos 1) ∷ []) ∷
    least (pos 34) ((0, pos 10) ∷ (2, pos 10) ∷ (3, pos 2) ∷ (5, pos 1) ∷ []) ∷
    []
    )

end_22 : end_of system_22 system_22.root 20000
    ≡ Empty (multipliers (pos 0) ((2, pos 50) ∷ (3, minus 257) ∷ (6, pos 7) ∷ [])) 7
unfolding system_22 gcd lowest solution_for elimination next_tableau
end_22 = refl

system_27 : System
system_27 =
    system (pos 0 ∷ pos 3 ∷ pos 1 ∷ []) (pos 2 ∷ pos 4 ∷ pos 21 ∷ []) (pos 0 ∷ pos 0 ∷ pos 5 ∷ [])
    (
    least (pos 4) ((0, pos 1) ∷ (1, minus 1) ∷ (2, pos 1) ∷ []) ∷
    least (pos 0) ((0, pos 1) ∷ []) ∷
    least (pos 6517) ((1, pos 10) ∷ (2, pos 360) ∷ []) ∷
    least (pos 37) ((0, minus 7) ∷ (1, pos 10) ∷ []) ∷
    equal (pos 26) ((0, pos 10) ∷ (1, pos 2) ∷ []) ∷
    least (pos 75) ((1, pos 3) ∷ (2, pos 3) ∷ []) ∷
    least (pos 12) ((0, minus 3) ∷ (1, pos 3) ∷ []) ∷
    least (minus 49) ((0, pos 1) ∷ (1, pos 1) ∷ (2, minus 3) ∷ []) ∷
    equal (minus 24) ((0, pos 2) ∷ (1, minus 2) ∷ (2, minus 2) ∷ []) ∷
    []
    )

end_27 : end_of system_27 system_27.root 20000 ≡ Empty (multipliers (pos 0) ((3, pos 10) ∷ (4, pos 7) ∷ [])) 6
unfolding system_27 gcd lowest solution_for elimination next_tableau
end_27 = refl

system_33 : System
system_33 =
    system (pos 1 ∷ pos 0 ∷ pos 1 ∷ []) (pos 3 ∷ pos 100 ∷ pos 21 ∷ []) (pos 1 ∷ pos 1 ∷ pos 5 ∷ [])
    (
    least (minus 77321277726020) ((0, minus 5244114787952) ∷ (1, minus 12012860489678) ∷ []) ∷
    least (minus 16115557845867) ((0, minus 13293501968735) ∷ (1, pos 700379897274) ∷ (2, minus 964305876754) ∷ []) ∷
    equal (minus 140180125459434) ((0, pos 8884369307106) ∷ (1, minus 3475692362099) ∷ []) ∷
    least (pos 206264900408096) ((0, minus 8543332911621) ∷ (1, minus 2043423593309) ∷ (2, pos 15542457110262) ∷ []) ∷
    []
    )

end_33 : end_of system_33 system_33.root 20000
    ≡ Empty (multipliers (pos 0) ((0, pos 3475692362099) ∷ (2, minus 12012860489678) ∷ [])) 1
unfolding system_33 gcd lowest solution_for elimination next_tableau
end_33 = refl

system_38 : System
system_38 =
    system (pos 3 ∷ pos 0 ∷ pos 3 ∷ pos 0 ∷ pos 3 ∷ []) (pos 4 ∷ pos 0 ∷ pos 103 ∷ pos 0 ∷ pos 23 ∷ []) (pos 5 ∷ pos 2 ∷ pos 2 ∷ pos 2 ∷ pos 2 ∷ [])
    (
    least (pos 776) ((0, minus 2) ∷ (2, pos 10) ∷ (3, pos 3) ∷ (4, pos 1) ∷ []) ∷
    least (pos 5044) ((0, pos 3) ∷ (1, pos 2) ∷ (3, pos 360) ∷ (4, pos 360) ∷ []) ∷
    least (minus 205) ((2, minus 3) ∷ (3, pos 3) ∷ (4, minus 2) ∷ []) ∷
    []
    )

end_38 : end_of system_38 system_38.root 20000
    ≡ Empty (multipliers (pos 0) ((0, pos 1080) ∷ (1, pos 17) ∷ (2, pos 3600) ∷ [])) 2
unfolding system_38 gcd lowest solution_for elimination next_tableau
end_38 = refl

system_49 : System
system_49 =
    system (pos 3 ∷ pos 0 ∷ pos 0 ∷ pos 0 ∷ pos 0 ∷ []) (pos 5 ∷ pos 20 ∷ pos 0 ∷ pos 5 ∷ pos 5 ∷ []) (pos 0 ∷ pos 17 ∷ pos 0 ∷ pos 0 ∷ pos 0 ∷ [])
    (
    least (minus 123) ((0, minus 1) ∷ (1, minus 7) ∷ (4, minus 2) ∷ []) ∷
    least (pos 26) ((0, pos 1) ∷ (1, pos 1) ∷ (2, minus 2) ∷ (3, pos 1) ∷ (4, pos 1) ∷ []) ∷
    least (pos 68) ((0, pos 10) ∷ (1, pos 3) ∷ (2, minus 3) ∷ (3, minus 7) ∷ (4, pos 1) ∷ []) ∷
    equal (minus 9) ((0, minus 3) ∷ (1, minus 2) ∷ []) ∷
    []
    )

end_49 : end_of system_49 system_49.root 20000
    ≡ Empty (multipliers (pos 0) ((1, pos 7) ∷ (2, pos 1) ∷ (3, pos 5) ∷ [])) 5
unfolding system_49 gcd lowest solution_for elimination next_tableau
end_49 = refl

system_56 : System
system_56 =
    system (pos 0 ∷ pos 0 ∷ pos 3 ∷ pos 3 ∷ pos 0 ∷ pos 0 ∷ [])
    (pos 1 ∷ pos 20 ∷ pos 5 ∷ pos 103 ∷ pos 5 ∷ pos 2 ∷ []) (pos 2 ∷ pos 1 ∷ pos 1 ∷ pos 5 ∷ pos 2 ∷ pos 1 ∷ [])
    (
    equal (minus 191) ((1, minus 7) ∷ (2, pos 3) ∷ (3, minus 1) ∷ []) ∷
    least (minus 2) ((2, minus 1) ∷ (4, pos 2) ∷ (5, pos 360) ∷ []) ∷
    least (pos 163) ((0, minus 7) ∷ (1, pos 1) ∷ (2, pos 1) ∷ (3, pos 5) ∷ (4, minus 2) ∷ (5, minus 2) ∷ []) ∷
    equal (minus 2) ((0, pos 1) ∷ []) ∷
    least (pos 25) ((0, minus 7) ∷ (1, pos 2) ∷ (2, minus 7) ∷ (3, pos 2) ∷ (4, minus 1) ∷ []) ∷
    least (pos 16) ((1, pos 10) ∷ (4, pos 10) ∷ []) ∷
    equal (pos 233) ((0, pos 1) ∷ (1, minus 3) ∷ (2, minus 3) ∷ (3, pos 3) ∷ (4, pos 1) ∷ (5, minus 1) ∷ []) ∷
    []
    )

end_56 : end_of system_56 system_56.root 20000 ≡ Empty (multipliers (pos 0) ((3, minus 1) ∷ [])) 3
unfolding system_56 gcd lowest solution_for elimination next_tableau
end_56 = refl
