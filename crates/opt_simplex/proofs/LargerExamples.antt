-- Systems of more than three quantities for which an outside program of the same rule found the optimum.
use Rattle.std.proofs.Common.{◌≡◌, [], ◌∷◌, pos, refl}
use Rattle.opt_system.specs.Systems.{System}
use Rattle.opt_frac.specs.Divisors.{gcd}
use Rattle.opt_frac.specs.Equations.{lowest}
use Rattle.opt_frac.specs.Elimination.{solution_for, elimination}
use Rattle.opt_simplex.specs.Pivot.{next_tableau}
use Rattle.opt_simplex.specs.Rule.{end_of}
use Rattle.opt_simplex.proofs.ExampleSystems.{system, least, equal, minus, multipliers}
use Rattle.opt_simplex.specs.declared.end.LpEnd.TheVariants.{Optimal}

system_13 : System
system_13 =
    system (pos 1 ∷ pos 1 ∷ pos 3 ∷ pos 0 ∷ []) (pos 3 ∷ pos 6 ∷ pos 4 ∷ pos 100 ∷ []) (pos 0 ∷ pos 1 ∷ pos 5 ∷ pos 0 ∷ [])
    (
    least (pos 86987869997578) ((1, pos 14497978332931) ∷ []) ∷
    least (pos 500316363422260) ((1, pos 1325146722799) ∷ (3, pos 6689402385555) ∷ []) ∷
    []
    )

end_13 : end_of system_13 system_13.root 20000
    ≡ Optimal ((pos 1, pos 1) ∷ (pos 86987869997578, pos 14497978332931) ∷ (pos 3, pos 1) ∷ (pos 2379434701885400479349687746, pos 32327603615344444471737235) ∷ [])
    (multipliers (pos 14497978332931) ((0, pos 1) ∷ [])) 2
unfolding system_13 gcd lowest solution_for elimination next_tableau
end_13 = refl

system_24 : System
system_24 =
    system (pos 0 ∷ pos 3 ∷ pos 1 ∷ pos 0 ∷ []) (pos 2 ∷ pos 5 ∷ pos 21 ∷ pos 20 ∷ []) (pos 5 ∷ pos 1 ∷ pos 0 ∷ pos 17 ∷ [])
    (
    equal (pos 226627197322743) ((2, pos 10791771301083) ∷ []) ∷
    least (pos 24264462121897) ((0, pos 12132231060949) ∷ []) ∷
    []
    )

end_24 : end_of system_24 system_24.root 20000
    ≡ Optimal ((pos 24264462121897, pos 12132231060949) ∷ (pos 3, pos 1) ∷ (pos 21, pos 1) ∷ (pos 0, pos 1) ∷ [])
    (multipliers (pos 12132231060949) ((1, pos 5) ∷ [])) 2
unfolding system_24 gcd lowest solution_for elimination next_tableau
end_24 = refl

system_35 : System
system_35 =
    system (pos 3 ∷ pos 0 ∷ pos 1 ∷ pos 0 ∷ []) (pos 4 ∷ pos 2 ∷ pos 10 ∷ pos 9 ∷ []) (pos 0 ∷ pos 2 ∷ pos 2 ∷ pos 5 ∷ [])
    (
    least (minus 55) ((1, pos 2) ∷ (2, minus 3) ∷ (3, minus 3) ∷ []) ∷
    least (pos 50) ((0, pos 3) ∷ (1, pos 2) ∷ (2, pos 10) ∷ []) ∷
    least (pos 35) ((2, pos 10) ∷ (3, minus 7) ∷ []) ∷
    least (pos 1086) ((0, pos 360) ∷ (1, pos 10) ∷ (3, minus 1) ∷ []) ∷
    equal (pos 12) ((1, minus 1) ∷ (2, minus 3) ∷ (3, pos 10) ∷ []) ∷
    least (pos 107) ((0, pos 1) ∷ (2, pos 10) ∷ (3, pos 1) ∷ []) ∷
    least (pos 24) ((1, pos 10) ∷ (2, pos 1) ∷ (3, pos 1) ∷ []) ∷
    least (pos 1091) ((0, pos 360) ∷ (2, minus 7) ∷ (3, pos 10) ∷ []) ∷
    least (pos 1080) ((0, pos 360) ∷ []) ∷
    []
    )

end_35 : end_of system_35 system_35.root 20000
    ≡ Optimal ((pos 4, pos 1) ∷ (pos 1025, pos 1039) ∷ (pos 10259, pos 1039) ∷ (pos 4427, pos 1039) ∷ [])
    (multipliers (pos 1039) ((4, pos 462) ∷ (5, pos 321) ∷ (6, pos 254) ∷ [])) 9
unfolding system_35 gcd lowest solution_for elimination next_tableau
end_35 = refl

system_44 : System
system_44 =
    system (pos 0 ∷ pos 0 ∷ pos 0 ∷ pos 0 ∷ pos 1 ∷ pos 0 ∷ pos 3 ∷ pos 0 ∷ pos 3 ∷ [])
    (pos 5 ∷ pos 5 ∷ pos 1 ∷ pos 2 ∷ pos 6 ∷ pos 1 ∷ pos 8 ∷ pos 2 ∷ pos 5 ∷ []) (pos 1 ∷ pos 1 ∷ pos 0 ∷ pos 17 ∷ pos 1 ∷ pos 5 ∷ pos 1 ∷ pos 0 ∷ pos 2 ∷ [])
    (
    least (minus 19) ((0, minus 1) ∷ (1, pos 1) ∷ (6, minus 2) ∷ (7, pos 3) ∷ []) ∷
    least (pos 25) ((3, pos 2) ∷ (8, pos 5) ∷ []) ∷
    least (pos 15) ((0, pos 1) ∷ (8, pos 3) ∷ []) ∷
    least (pos 15) ((3, pos 5) ∷ (4, pos 5) ∷ (6, minus 1) ∷ []) ∷
    least (pos 1754) ((0, minus 3) ∷ (1, pos 3) ∷ (3, minus 7) ∷ (5, minus 1) ∷ (6, pos 360) ∷ (7, pos 5) ∷ (8, minus 7) ∷ []) ∷
    least (minus 3) ((3, pos 3) ∷ (4, minus 1) ∷ []) ∷
    least (pos 39) ((0, pos 3) ∷ (1, pos 2) ∷ (2, minus 2) ∷ (3, pos 1) ∷ (4, minus 2) ∷ (5, pos 1) ∷ (6, pos 1) ∷ (7, minus 1) ∷ (8, pos 10) ∷ []) ∷
    least (pos 22) ((0, pos 3) ∷ (1, pos 1) ∷ (2, minus 7) ∷ (3, minus 2) ∷ (4, pos 10) ∷ (8, pos 1) ∷ []) ∷
    []
    )

end_44 : end_of system_44 system_44.root 20000
    ≡ Optimal ((pos 0, pos 1) ∷ (pos 0, pos 1) ∷ (pos 0, pos 1) ∷ (pos 1779, pos 7193) ∷ (pos 26916, pos 7193) ∷ (pos 0, pos 1) ∷ (pos 35580, pos 7193) ∷ (pos 2, pos 1) ∷ (pos 5, pos 1) ∷ [])
    (multipliers (pos 21579) ((2, pos 14666) ∷ (3, pos 21621) ∷ (4, pos 120) ∷ (5, pos 86526) ∷ [])) 6
unfolding system_44 gcd lowest solution_for elimination next_tableau
end_44 = refl

system_87 : System
system_87 =
    system (pos 0 ∷ pos 3 ∷ pos 0 ∷ pos 3 ∷ []) (pos 1 ∷ pos 23 ∷ pos 5 ∷ pos 12 ∷ []) (pos 1 ∷ pos 1 ∷ pos 1 ∷ pos 17 ∷ [])
    (
    least (minus 36) ((0, minus 7) ∷ (2, minus 3) ∷ (3, minus 2) ∷ []) ∷
    least (pos 48) ((0, minus 3) ∷ (2, minus 7) ∷ (3, pos 10) ∷ []) ∷
    []
    )

end_87 : end_of system_87 system_87.root 20000
    ≡ Optimal ((pos 0, pos 1) ∷ (pos 3, pos 1) ∷ (pos 0, pos 1) ∷ (pos 24, pos 5) ∷ []) (multipliers (pos 10) ((1, pos 17) ∷ [])) 1
unfolding system_87 gcd lowest solution_for elimination next_tableau
end_87 = refl

system_93 : System
system_93 =
    system (pos 0 ∷ pos 0 ∷ pos 1 ∷ pos 0 ∷ []) (pos 2 ∷ pos 100 ∷ pos 21 ∷ pos 100 ∷ []) (pos 5 ∷ pos 1 ∷ pos 1 ∷ pos 1 ∷ [])
    (
    least (pos 239) ((0, minus 2) ∷ (1, pos 10) ∷ (3, pos 1) ∷ []) ∷
    []
    )

end_93 : end_of system_93 system_93.root 1
    ≡ Optimal ((pos 0, pos 1) ∷ (pos 239, pos 10) ∷ (pos 1, pos 1) ∷ (pos 0, pos 1) ∷ []) (multipliers (pos 10) ((0, pos 1) ∷ [])) 1
unfolding system_93 gcd lowest solution_for elimination next_tableau
end_93 = refl

system_97 : System
system_97 =
    system (pos 3 ∷ pos 3 ∷ pos 1 ∷ pos 3 ∷ pos 0 ∷ []) (pos 4 ∷ pos 8 ∷ pos 10 ∷ pos 4 ∷ pos 100 ∷ []) (pos 2 ∷ pos 1 ∷ pos 1 ∷ pos 2 ∷ pos 5 ∷ [])
    (
    least (pos 4053) ((0, pos 1) ∷ (1, pos 360) ∷ (3, pos 360) ∷ (4, pos 1) ∷ []) ∷
    least (pos 10) ((0, pos 1) ∷ (1, pos 2) ∷ []) ∷
    least (minus 43) ((2, minus 3) ∷ (3, minus 7) ∷ []) ∷
    least (pos 214) ((0, pos 10) ∷ (2, pos 5) ∷ (3, pos 1) ∷ (4, pos 2) ∷ []) ∷
    least (minus 622) ((2, pos 1) ∷ (4, minus 7) ∷ []) ∷
    []
    )

end_97 : end_of system_97 system_97.root 20000
    ≡ Optimal ((pos 4, pos 1) ∷ (pos 8, pos 1) ∷ (pos 15769, pos 2192) ∷ (pos 6707, pos 2192) ∷ (pos 18491, pos 274) ∷ [])
    (multipliers (pos 2192) ((0, pos 158) ∷ (2, pos 8271) ∷ (3, pos 5401) ∷ [])) 10
unfolding system_97 gcd lowest solution_for elimination next_tableau
end_97 = refl

system_100 : System
system_100 =
    system (pos 0 ∷ pos 3 ∷ pos 3 ∷ pos 0 ∷ pos 0 ∷ []) (pos 20 ∷ pos 4 ∷ pos 103 ∷ pos 2 ∷ pos 9 ∷ []) (pos 2 ∷ pos 0 ∷ pos 0 ∷ pos 2 ∷ pos 0 ∷ [])
    (
    equal (minus 58) ((0, minus 7) ∷ (4, pos 1) ∷ []) ∷
    least (pos 4) ((4, pos 3) ∷ []) ∷
    least (pos 30600) ((2, pos 360) ∷ []) ∷
    least (pos 415) ((0, pos 3) ∷ (2, pos 5) ∷ []) ∷
    least (pos 896) ((0, minus 2) ∷ (1, pos 2) ∷ (2, pos 10) ∷ []) ∷
    []
    )

end_100 : end_of system_100 system_100.root 20000
    ≡ Optimal ((pos 178, pos 21) ∷ (pos 4, pos 1) ∷ (pos 9502, pos 105) ∷ (pos 0, pos 1) ∷ (pos 4, pos 3) ∷ [])
    (multipliers (pos 21) ((0, minus 6) ∷ (1, pos 2) ∷ [])) 5
unfolding system_100 gcd lowest solution_for elimination next_tableau
end_100 = refl

system_110 : System
system_110 =
    system (pos 0 ∷ pos 0 ∷ pos 3 ∷ pos 0 ∷ []) (pos 20 ∷ pos 2 ∷ pos 8 ∷ pos 100 ∷ []) (pos 5 ∷ pos 5 ∷ pos 0 ∷ pos 1 ∷ [])
    (
    equal (pos 10) ((2, pos 3) ∷ []) ∷
    least (minus 28) ((1, minus 7) ∷ (2, minus 7) ∷ []) ∷
    []
    )

end_110 : end_of system_110 system_110.root 1
    ≡ Optimal ((pos 0, pos 1) ∷ (pos 0, pos 1) ∷ (pos 10, pos 3) ∷ (pos 0, pos 1) ∷ []) (multipliers (pos 1) []) 1
unfolding system_110 gcd lowest solution_for elimination next_tableau
end_110 = refl

system_117 : System
system_117 =
    system (pos 0 ∷ pos 3 ∷ pos 0 ∷ pos 3 ∷ pos 3 ∷ pos 0 ∷ pos 1 ∷ pos 0 ∷ [])
    (pos 0 ∷ pos 5 ∷ pos 5 ∷ pos 4 ∷ pos 12 ∷ pos 1 ∷ pos 10 ∷ pos 100 ∷ []) (pos 2 ∷ pos 5 ∷ pos 1 ∷ pos 1 ∷ pos 0 ∷ pos 0 ∷ pos 2 ∷ pos 2 ∷ [])
    (
    least (pos 1815) ((0, pos 2) ∷ (1, minus 2) ∷ (2, minus 1) ∷ (3, minus 3) ∷ (4, pos 360) ∷ (5, pos 10) ∷ (6, pos 360) ∷ (7, pos 1) ∷ []) ∷
    least (minus 44) ((0, pos 1) ∷ (1, pos 1) ∷ (4, minus 3) ∷ (6, minus 3) ∷ []) ∷
    least (pos 28) ((3, pos 10) ∷ (4, minus 1) ∷ []) ∷
    least (pos 3) ((2, pos 10) ∷ []) ∷
    least (pos 892) ((1, pos 10) ∷ (2, minus 2) ∷ (3, pos 1) ∷ (4, pos 5) ∷ (5, pos 10) ∷ (6, pos 360) ∷ (7, pos 5) ∷ []) ∷
    least (pos 3212) ((1, minus 7) ∷ (4, pos 360) ∷ []) ∷
    least (pos 1888) ((2, minus 7) ∷ (3, pos 3) ∷ (4, pos 360) ∷ (5, pos 10) ∷ (6, pos 10) ∷ (7, pos 1) ∷ []) ∷
    []
    )

end_117 : end_of system_117 system_117.root 20000
    ≡ Optimal ((pos 0, pos 1) ∷ (pos 3, pos 1) ∷ (pos 3, pos 10) ∷ (pos 13313, pos 3600) ∷ (pos 3233, pos 360) ∷ (pos 1, pos 1) ∷ (pos 964799, pos 432000) ∷ (pos 0, pos 1) ∷ [])
    (multipliers (pos 216000) ((2, pos 21480) ∷ (3, pos 21840) ∷ (4, pos 1200) ∷ (5, pos 43) ∷ [])) 8
unfolding system_117 gcd lowest solution_for elimination next_tableau
end_117 = refl

system_127 : System
system_127 =
    system (pos 1 ∷ pos 0 ∷ pos 0 ∷ pos 0 ∷ pos 1 ∷ []) (pos 1 ∷ pos 5 ∷ pos 9 ∷ pos 2 ∷ pos 21 ∷ []) (pos 1 ∷ pos 17 ∷ pos 0 ∷ pos 0 ∷ pos 1 ∷ [])
    (
    least (minus 13) ((1, minus 3) ∷ (2, pos 1) ∷ []) ∷
    equal (pos 382) ((0, minus 2) ∷ (1, pos 2) ∷ (2, pos 2) ∷ (3, pos 360) ∷ []) ∷
    least (pos 422) ((0, pos 1) ∷ (1, minus 3) ∷ (2, minus 1) ∷ (3, pos 360) ∷ (4, pos 10) ∷ []) ∷
    equal (minus 4) ((1, minus 1) ∷ []) ∷
    least (pos 0) [] ∷
    []
    )

end_127 : end_of system_127 system_127.root 20000
    ≡ Optimal ((pos 1, pos 1) ∷ (pos 4, pos 1) ∷ (pos 0, pos 1) ∷ (pos 47, pos 45) ∷ (pos 57, pos 10) ∷ [])
    (multipliers (pos 10) ((1, minus 1) ∷ (2, pos 1) ∷ (3, minus 175) ∷ [])) 5
unfolding system_127 gcd lowest solution_for elimination next_tableau
end_127 = refl

system_131 : System
system_131 =
    system (pos 0 ∷ pos 0 ∷ pos 0 ∷ pos 0 ∷ pos 0 ∷ pos 0 ∷ pos 0 ∷ pos 0 ∷ [])
    (pos 2 ∷ pos 1 ∷ pos 5 ∷ pos 0 ∷ pos 2 ∷ pos 9 ∷ pos 1 ∷ pos 100 ∷ []) (pos 0 ∷ pos 0 ∷ pos 1 ∷ pos 0 ∷ pos 2 ∷ pos 17 ∷ pos 5 ∷ pos 0 ∷ [])
    (
    equal (minus 134) ((0, pos 10) ∷ (1, pos 1) ∷ (2, minus 1) ∷ (3, minus 7) ∷ (4, minus 2) ∷ (5, minus 2) ∷ (6, pos 360) ∷ (7, minus 2) ∷ []) ∷
    equal (pos 161) ((0, pos 5) ∷ (1, minus 7) ∷ (3, minus 2) ∷ (4, minus 1) ∷ (5, pos 1) ∷ (6, minus 3) ∷ (7, pos 2) ∷ []) ∷
    equal (pos 882) ((0, pos 2) ∷ (1, minus 1) ∷ (2, minus 3) ∷ (3, pos 1) ∷ (4, pos 360) ∷ (5, pos 1) ∷ (6, minus 7) ∷ (7, pos 3) ∷ []) ∷
    []
    )

end_131 : end_of system_131 system_131.root 20000
    ≡ Optimal ((pos 2, pos 1) ∷ (pos 0, pos 1) ∷ (pos 0, pos 1) ∷ (pos 0, pos 1) ∷ (pos 38763, pos 21508) ∷ (pos 0, pos 1) ∷ (pos 145, pos 21508) ∷ (pos 1643453, pos 21508) ∷ [])
    (multipliers (pos 258096) ((0, pos 3625) ∷ (1, pos 1438) ∷ (2, pos 1458) ∷ [])) 5
unfolding system_131 gcd lowest solution_for elimination next_tableau
end_131 = refl

system_134 : System
system_134 =
    system (pos 0 ∷ pos 3 ∷ pos 1 ∷ pos 1 ∷ []) (pos 100 ∷ pos 8 ∷ pos 1 ∷ pos 6 ∷ []) (pos 2 ∷ pos 1 ∷ pos 0 ∷ pos 0 ∷ [])
    (
    least (minus 41) ((3, minus 7) ∷ []) ∷
    least (pos 3) ((2, pos 1) ∷ (3, pos 3) ∷ []) ∷
    least (pos 158) ((0, pos 2) ∷ (1, pos 5) ∷ (3, minus 1) ∷ []) ∷
    []
    )

end_134 : end_of system_134 system_134.root 20000
    ≡ Optimal ((pos 119, pos 2) ∷ (pos 8, pos 1) ∷ (pos 1, pos 1) ∷ (pos 1, pos 1) ∷ []) (multipliers (pos 1) ((2, pos 1) ∷ [])) 2
unfolding system_134 gcd lowest solution_for elimination next_tableau
end_134 = refl

system_137 : System
system_137 =
    system (pos 1 ∷ pos 1 ∷ pos 0 ∷ pos 3 ∷ []) (pos 21 ∷ pos 2 ∷ pos 9 ∷ pos 8 ∷ []) (pos 0 ∷ pos 5 ∷ pos 2 ∷ pos 2 ∷ [])
    (
    equal (pos 8) ((3, pos 2) ∷ []) ∷
    least (pos 14) ((0, pos 3) ∷ (1, minus 2) ∷ (2, pos 2) ∷ (3, pos 1) ∷ []) ∷
    equal (pos 72) ((0, pos 10) ∷ (1, minus 1) ∷ (2, pos 10) ∷ (3, pos 3) ∷ []) ∷
    least (minus 56) ((0, minus 2) ∷ (2, minus 2) ∷ []) ∷
    least (pos 47) ((2, pos 10) ∷ []) ∷
    []
    )

end_137 : end_of system_137 system_137.root 20000
    ≡ Optimal ((pos 7, pos 5) ∷ (pos 1, pos 1) ∷ (pos 47, pos 10) ∷ (pos 4, pos 1) ∷ [])
    (multipliers (pos 5) ((0, pos 5) ∷ (4, pos 1) ∷ [])) 4
unfolding system_137 gcd lowest solution_for elimination next_tableau
end_137 = refl

system_140 : System
system_140 =
    system (pos 0 ∷ pos 3 ∷ pos 0 ∷ pos 1 ∷ []) (pos 1 ∷ pos 103 ∷ pos 1 ∷ pos 101 ∷ []) (pos 1 ∷ pos 5 ∷ pos 5 ∷ pos 0 ∷ [])
    (
    least (minus 581) ((0, minus 2) ∷ (1, minus 7) ∷ (3, pos 1) ∷ []) ∷
    least (pos 43) ((2, minus 7) ∷ (3, pos 1) ∷ []) ∷
    least (pos 205) ((1, pos 5) ∷ []) ∷
    least (pos 25912) ((3, pos 360) ∷ []) ∷
    []
    )

end_140 : end_of system_140 system_140.root 20000
    ≡ Optimal ((pos 0, pos 1) ∷ (pos 41, pos 1) ∷ (pos 0, pos 1) ∷ (pos 3239, pos 45) ∷ []) (multipliers (pos 1) ((2, pos 1) ∷ [])) 3
unfolding system_140 gcd lowest solution_for elimination next_tableau
end_140 = refl

system_143 : System
system_143 =
    system (pos 0 ∷ pos 0 ∷ pos 0 ∷ pos 0 ∷ pos 0 ∷ pos 0 ∷ pos 0 ∷ pos 0 ∷ pos 0 ∷ [])
    (pos 2 ∷ pos 0 ∷ pos 20 ∷ pos 9 ∷ pos 0 ∷ pos 5 ∷ pos 9 ∷ pos 9 ∷ pos 1 ∷ []) (pos 1 ∷ pos 17 ∷ pos 0 ∷ pos 5 ∷ pos 1 ∷ pos 5 ∷ pos 0 ∷ pos 5 ∷ pos 2 ∷ [])
    (
    equal (minus 10) ((0, minus 3) ∷ (3, minus 1) ∷ []) ∷
    least (minus 4) ((1, pos 3) ∷ []) ∷
    []
    )

end_143 : end_of system_143 system_143.root 20000
    ≡ Optimal ((pos 2, pos 1) ∷ (pos 0, pos 1) ∷ (pos 0, pos 1) ∷ (pos 4, pos 1) ∷ (pos 0, pos 1) ∷ (pos 0, pos 1) ∷ (pos 0, pos 1) ∷ (pos 0, pos 1) ∷ (pos 0, pos 1) ∷ [])
    (multipliers (pos 1) ((0, minus 5) ∷ [])) 2
unfolding system_143 gcd lowest solution_for elimination next_tableau
end_143 = refl

system_149 : System
system_149 =
    system (pos 0 ∷ pos 1 ∷ pos 0 ∷ pos 0 ∷ []) (pos 1 ∷ pos 10 ∷ pos 2 ∷ pos 20 ∷ []) (pos 17 ∷ pos 5 ∷ pos 0 ∷ pos 0 ∷ [])
    (
    least (pos 0) ((2, minus 2) ∷ []) ∷
    least (minus 15) ((0, minus 1) ∷ (2, pos 10) ∷ (3, minus 1) ∷ []) ∷
    least (pos 12) ((0, pos 10) ∷ (3, pos 1) ∷ []) ∷
    equal (minus 6) ((0, pos 5) ∷ (1, pos 3) ∷ (2, pos 5) ∷ (3, minus 7) ∷ []) ∷
    equal (pos 14) ((0, pos 5) ∷ (1, pos 2) ∷ (2, minus 7) ∷ (3, pos 1) ∷ []) ∷
    least (pos 1440) ((0, pos 360) ∷ (1, pos 360) ∷ []) ∷
    least (minus 68) ((0, pos 5) ∷ (1, minus 7) ∷ (2, minus 3) ∷ (3, minus 2) ∷ []) ∷
    []
    )

end_149 : end_of system_149 system_149.root 20000
    ≡ Optimal ((pos 10, pos 11) ∷ (pos 36, pos 11) ∷ (pos 0, pos 1) ∷ (pos 32, pos 11) ∷ [])
    (multipliers (pos 165) ((2, pos 89) ∷ (3, pos 59) ∷ (4, pos 324) ∷ [])) 7
unfolding system_149 gcd lowest solution_for elimination next_tableau
end_149 = refl
