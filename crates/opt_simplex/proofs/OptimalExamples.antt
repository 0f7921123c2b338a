-- Systems of at most three quantities for which an outside program of the same rule found the optimum.
use Rattle.std.proofs.Common.{◌≡◌, [], ◌∷◌, pos, refl}
use Rattle.opt_system.specs.Systems.{System}
use Rattle.opt_frac.specs.Divisors.{gcd}
use Rattle.opt_frac.specs.Equations.{lowest}
use Rattle.opt_frac.specs.Elimination.{solution_for, elimination}
use Rattle.opt_simplex.specs.Pivot.{next_tableau}
use Rattle.opt_simplex.specs.Rule.{end_of}
use Rattle.opt_simplex.proofs.ExampleSystems.{system, least, equal, minus, multipliers}
use Rattle.opt_simplex.specs.declared.end.LpEnd.TheVariants.{Optimal}

system_58 : System
system_58 =
    system (pos 0 ∷ pos 0 ∷ pos 0 ∷ []) (pos 5 ∷ pos 5 ∷ pos 2 ∷ []) (pos 0 ∷ pos 17 ∷ pos 2 ∷ [])
    (
    least (pos 6) ((0, pos 2) ∷ (2, minus 3) ∷ []) ∷
    []
    )

end_58 : end_of system_58 system_58.root 20000
    ≡ Optimal ((pos 3, pos 1) ∷ (pos 0, pos 1) ∷ (pos 0, pos 1) ∷ []) (multipliers (pos 1) []) 1
unfolding system_58 gcd lowest solution_for elimination next_tableau
end_58 = refl

system_62 : System
system_62 =
    system (pos 0 ∷ []) (pos 9 ∷ []) (pos 0 ∷ [])
    (
    least (pos 27843466512816) ((0, pos 9281155504274) ∷ []) ∷
    least (minus 29783440695800) ((0, minus 5956688139160) ∷ []) ∷
    least (pos 441268281336) ((0, pos 220634140668) ∷ []) ∷
    []
    )

end_62 : end_of system_62 system_62.root 20000
    ≡ Optimal ((pos 13921733256408, pos 4640577752137) ∷ []) (multipliers (pos 1) []) 1
unfolding system_62 gcd lowest solution_for elimination next_tableau
end_62 = refl

system_72 : System
system_72 =
    system (pos 0 ∷ pos 0 ∷ []) (pos 1 ∷ pos 20 ∷ []) (pos 1 ∷ pos 1 ∷ [])
    (
    least (pos 20) ((0, pos 1) ∷ (1, pos 1) ∷ []) ∷
    []
    )

end_72 : end_of system_72 system_72.root 20000
    ≡ Optimal ((pos 1, pos 1) ∷ (pos 19, pos 1) ∷ []) (multipliers (pos 1) ((0, pos 1) ∷ [])) 2
unfolding system_72 gcd lowest solution_for elimination next_tableau
end_72 = refl

system_75 : System
system_75 =
    system (pos 0 ∷ pos 3 ∷ pos 0 ∷ []) (pos 1 ∷ pos 8 ∷ pos 20 ∷ []) (pos 2 ∷ pos 1 ∷ pos 1 ∷ [])
    (
    equal (pos 138715561357590) ((2, pos 13871556135759) ∷ []) ∷
    []
    )

end_75 : end_of system_75 system_75.root 20000
    ≡ Optimal ((pos 0, pos 1) ∷ (pos 3, pos 1) ∷ (pos 10, pos 1) ∷ []) (multipliers (pos 13871556135759) ((0, pos 1) ∷ [])) 1
unfolding system_75 gcd lowest solution_for elimination next_tableau
end_75 = refl

system_84 : System
system_84 =
    system (pos 0 ∷ pos 3 ∷ pos 0 ∷ []) (pos 20 ∷ pos 12 ∷ pos 2 ∷ []) (pos 1 ∷ pos 1 ∷ pos 0 ∷ [])
    (
    equal (pos 1) ((0, pos 1) ∷ (1, minus 3) ∷ (2, pos 1) ∷ []) ∷
    least (pos 56) ((1, pos 10) ∷ (2, minus 7) ∷ []) ∷
    []
    )

end_84 : end_of system_84 system_84.root 20000
    ≡ Optimal ((pos 89, pos 5) ∷ (pos 28, pos 5) ∷ (pos 0, pos 1) ∷ []) (multipliers (pos 5) ((0, pos 5) ∷ (1, pos 2) ∷ [])) 4
unfolding system_84 gcd lowest solution_for elimination next_tableau
end_84 = refl

system_105 : System
system_105 =
    system (pos 0 ∷ pos 0 ∷ pos 3 ∷ []) (pos 100 ∷ pos 20 ∷ pos 5 ∷ []) (pos 1 ∷ pos 1 ∷ pos 0 ∷ [])
    (
    least (pos 1830) ((1, pos 3) ∷ (2, pos 360) ∷ []) ∷
    least (minus 5) ((2, minus 1) ∷ []) ∷
    least (pos 320) ((0, pos 5) ∷ []) ∷
    []
    )

end_105 : end_of system_105 system_105.root 20000
    ≡ Optimal ((pos 64, pos 1) ∷ (pos 10, pos 1) ∷ (pos 5, pos 1) ∷ []) (multipliers (pos 15) ((0, pos 5) ∷ (2, pos 3) ∷ [])) 3
unfolding system_105 gcd lowest solution_for elimination next_tableau
end_105 = refl

system_123 : System
system_123 =
    system (pos 0 ∷ pos 3 ∷ []) (pos 5 ∷ pos 8 ∷ []) (pos 2 ∷ pos 1 ∷ [])
    (
    equal (minus 49) ((0, pos 1) ∷ (1, minus 7) ∷ []) ∷
    least (pos 0) ((0, pos 1) ∷ []) ∷
    []
    )

end_123 : end_of system_123 system_123.root 20000
    ≡ Optimal ((pos 0, pos 1) ∷ (pos 7, pos 1) ∷ []) (multipliers (pos 7) ((0, minus 1) ∷ [])) 1
unfolding system_123 gcd lowest solution_for elimination next_tableau
end_123 = refl

system_146 : System
system_146 =
    system (pos 1 ∷ pos 1 ∷ pos 3 ∷ []) (pos 10 ∷ pos 6 ∷ pos 4 ∷ []) (pos 17 ∷ pos 0 ∷ pos 2 ∷ [])
    (
    least (pos 9) ((0, pos 1) ∷ (1, pos 1) ∷ []) ∷
    least (pos 50) ((1, pos 2) ∷ (2, pos 10) ∷ []) ∷
    least (pos 28) ((2, pos 10) ∷ []) ∷
    []
    )

end_146 : end_of system_146 system_146.root 20000
    ≡ Optimal ((pos 3, pos 1) ∷ (pos 6, pos 1) ∷ (pos 19, pos 5) ∷ []) (multipliers (pos 5) ((0, pos 85) ∷ (1, pos 1) ∷ [])) 3
unfolding system_146 gcd lowest solution_for elimination next_tableau
end_146 = refl
