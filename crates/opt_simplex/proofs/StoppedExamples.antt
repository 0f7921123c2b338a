-- Systems for which an outside program of the same rule stopped: by its limit of pivots, or at a number that does not fit.
use Rattle.std.proofs.Common.{◌≡◌, [], ◌∷◌, pos, refl}
use Rattle.opt_system.specs.Systems.{System}
use Rattle.opt_frac.specs.Divisors.{gcd}
use Rattle.opt_frac.specs.Equations.{lowest}
use Rattle.opt_frac.specs.Elimination.{solution_for, elimination}
use Rattle.opt_simplex.specs.Pivot.{next_tableau}
use Rattle.opt_simplex.specs.Rule.{end_of}
use Rattle.opt_simplex.proofs.ExampleSystems.{system, least, equal, minus, multipliers}
use Rattle.opt_simplex.specs.declared.end.LpEnd.TheVariants.{Stopped}
use Rattle.opt_simplex.specs.declared.end.Why.TheVariants.{Pivots, Wide}

system_4 : System
system_4 =
    system (pos 3 ∷ pos 0 ∷ pos 0 ∷ pos 0 ∷ pos 3 ∷ pos 1 ∷ pos 3 ∷ pos 0 ∷ pos 3 ∷ [])
    (pos 8 ∷ pos 2 ∷ pos 1 ∷ pos 20 ∷ pos 8 ∷ pos 3 ∷ pos 5 ∷ pos 0 ∷ pos 8 ∷ []) (pos 0 ∷ pos 17 ∷ pos 17 ∷ pos 0 ∷ pos 0 ∷ pos 17 ∷ pos 17 ∷ pos 5 ∷ pos 1 ∷ [])
    (
    least (pos 358) ((0, pos 1) ∷ (2, pos 360) ∷ []) ∷
    equal (pos 53) ((0, pos 2) ∷ (2, pos 360) ∷ (3, pos 2) ∷ (4, pos 1) ∷ (5, minus 3) ∷ (6, minus 3) ∷ (7, pos 10) ∷ (8, pos 3) ∷ []) ∷
    least (pos 53) ((0, pos 10) ∷ (1, pos 360) ∷ (2, pos 360) ∷ (3, pos 3) ∷ (4, pos 1) ∷ (6, pos 1) ∷ (7, pos 2) ∷ (8, minus 2) ∷ []) ∷
    least (pos 2931) ((0, pos 360) ∷ (1, minus 3) ∷ (2, pos 2) ∷ (4, pos 5) ∷ (5, pos 1) ∷ (7, minus 3) ∷ (8, pos 3) ∷ []) ∷
    least (minus 34) ((0, minus 2) ∷ (1, minus 2) ∷ (2, pos 2) ∷ (4, pos 1) ∷ (6, minus 7) ∷ (7, minus 3) ∷ (8, pos 1) ∷ []) ∷
    []
    )

end_4 : end_of system_4 system_4.root 1 ≡ Stopped Pivots 1 (multipliers (pos 1) [])
unfolding system_4 gcd lowest solution_for elimination next_tableau
end_4 = refl

system_29 : System
system_29 =
    system (pos 0 ∷ pos 3 ∷ pos 0 ∷ pos 1 ∷ pos 3 ∷ pos 0 ∷ [])
    (pos 5 ∷ pos 8 ∷ pos 100 ∷ pos 3 ∷ pos 12 ∷ pos 9 ∷ []) (pos 17 ∷ pos 17 ∷ pos 2 ∷ pos 1 ∷ pos 2 ∷ pos 5 ∷ [])
    (
    least (minus 166) ((2, minus 3) ∷ (3, pos 1) ∷ (5, pos 1) ∷ []) ∷
    equal (pos 531) ((2, minus 2) ∷ (3, pos 360) ∷ (4, minus 2) ∷ (5, pos 3) ∷ []) ∷
    least (pos 14) ((0, pos 5) ∷ (1, minus 2) ∷ (4, pos 2) ∷ []) ∷
    equal (pos 26) ((0, pos 10) ∷ (1, pos 1) ∷ (2, pos 2) ∷ (3, minus 7) ∷ (5, minus 1) ∷ []) ∷
    equal (pos 610) ((0, pos 10) ∷ (2, pos 10) ∷ []) ∷
    []
    )

end_29 : end_of system_29 system_29.root 1 ≡ Stopped Pivots 1 (multipliers (pos 360) ((1, pos 1) ∷ []))
unfolding system_29 gcd lowest solution_for elimination next_tableau
end_29 = refl

system_48 : System
system_48 =
    system (pos 0 ∷ pos 0 ∷ pos 1 ∷ pos 3 ∷ pos 0 ∷ []) (pos 20 ∷ pos 1 ∷ pos 21 ∷ pos 4 ∷ pos 20 ∷ []) (pos 0 ∷ pos 0 ∷ pos 0 ∷ pos 0 ∷ pos 0 ∷ [])
    (
    least (pos 53) ((0, minus 2) ∷ (1, pos 1) ∷ (2, pos 10) ∷ (3, minus 2) ∷ (4, pos 3) ∷ []) ∷
    least (pos 190) ((0, pos 2) ∷ (1, pos 5) ∷ (2, pos 2) ∷ (3, pos 10) ∷ (4, pos 10) ∷ []) ∷
    least (pos 39) ((0, pos 1) ∷ (1, minus 2) ∷ (2, pos 5) ∷ (3, minus 2) ∷ (4, pos 1) ∷ []) ∷
    least (minus 61) ((0, minus 2) ∷ (1, minus 3) ∷ (2, minus 1) ∷ (3, minus 2) ∷ (4, minus 3) ∷ []) ∷
    equal (pos 12) ((3, pos 3) ∷ []) ∷
    least (pos 4) ((0, minus 1) ∷ (1, pos 5) ∷ (2, minus 2) ∷ (3, minus 7) ∷ (4, pos 3) ∷ []) ∷
    []
    )

end_48 : end_of system_48 system_48.root 2 ≡ Stopped Pivots 2 (multipliers (pos 1) [])
unfolding system_48 gcd lowest solution_for elimination next_tableau
end_48 = refl

system_60 : System
system_60 =
    system (pos 0 ∷ pos 1 ∷ pos 0 ∷ pos 0 ∷ pos 1 ∷ []) (pos 5 ∷ pos 21 ∷ pos 9 ∷ pos 2 ∷ pos 101 ∷ []) (pos 17 ∷ pos 5 ∷ pos 2 ∷ pos 5 ∷ pos 0 ∷ [])
    (
    least (pos 102) ((2, minus 1) ∷ (4, pos 3) ∷ []) ∷
    equal (pos 2160) ((2, pos 360) ∷ []) ∷
    least (pos 34968) ((0, pos 3) ∷ (1, pos 10) ∷ (2, pos 2) ∷ (4, pos 360) ∷ []) ∷
    equal (pos 467) ((0, minus 7) ∷ (1, pos 3) ∷ (2, pos 1) ∷ (3, pos 360) ∷ (4, pos 1) ∷ []) ∷
    least (minus 16) ((1, minus 2) ∷ []) ∷
    least (pos 1202) ((0, minus 3) ∷ (1, pos 10) ∷ (2, pos 360) ∷ (3, pos 1) ∷ []) ∷
    least (pos 783) ((0, pos 10) ∷ (1, minus 2) ∷ (2, pos 3) ∷ (3, pos 360) ∷ []) ∷
    equal (pos 12) ((0, pos 5) ∷ (1, pos 2) ∷ []) ∷
    equal (minus 96) ((1, minus 7) ∷ (4, minus 3) ∷ []) ∷
    []
    )

end_60 : end_of system_60 system_60.root 1 ≡ Stopped Pivots 1 (multipliers (pos 1) [])
unfolding system_60 gcd lowest solution_for elimination next_tableau
end_60 = refl

system_79 : System
system_79 =
    system (pos 1 ∷ pos 1 ∷ pos 0 ∷ pos 0 ∷ []) (pos 2 ∷ pos 10 ∷ pos 20 ∷ pos 1 ∷ []) (pos 0 ∷ pos 1 ∷ pos 0 ∷ pos 1 ∷ [])
    (
    equal (pos 686) ((1, pos 360) ∷ (2, minus 2) ∷ (3, minus 1) ∷ []) ∷
    least (pos 3) ((0, pos 1) ∷ (1, minus 2) ∷ (2, pos 1) ∷ (3, minus 2) ∷ []) ∷
    least (minus 6) ((0, minus 2) ∷ (3, minus 2) ∷ []) ∷
    []
    )

end_79 : end_of system_79 system_79.root 2 ≡ Stopped Pivots 2 (multipliers (pos 360) ((0, pos 1) ∷ []))
unfolding system_79 gcd lowest solution_for elimination next_tableau
end_79 = refl

system_83 : System
system_83 =
    system (pos 0 ∷ pos 0 ∷ pos 1 ∷ pos 0 ∷ pos 0 ∷ pos 3 ∷ pos 0 ∷ pos 1 ∷ pos 0 ∷ [])
    (pos 20 ∷ pos 0 ∷ pos 101 ∷ pos 20 ∷ pos 1 ∷ pos 5 ∷ pos 0 ∷ pos 6 ∷ pos 5 ∷ []) (pos 0 ∷ pos 0 ∷ pos 2 ∷ pos 5 ∷ pos 5 ∷ pos 0 ∷ pos 17 ∷ pos 17 ∷ pos 1 ∷ [])
    (
    least (pos 36308) ((0, minus 2) ∷ (1, minus 7) ∷ (2, pos 360) ∷ (6, pos 10) ∷ (7, minus 7) ∷ []) ∷
    least (pos 6) ((5, pos 1) ∷ (6, pos 360) ∷ (7, pos 5) ∷ (8, minus 2) ∷ []) ∷
    least (pos 12) ((3, pos 3) ∷ (5, minus 3) ∷ []) ∷
    least (minus 45) ((1, pos 2) ∷ (2, minus 1) ∷ (3, minus 2) ∷ (7, minus 1) ∷ (8, minus 1) ∷ []) ∷
    least (pos 210) ((1, minus 3) ∷ (2, pos 10) ∷ (3, pos 1) ∷ (4, minus 2) ∷ (7, minus 3) ∷ (8, minus 2) ∷ []) ∷
    least (minus 33) ((0, pos 3) ∷ (1, pos 2) ∷ (2, minus 1) ∷ (4, minus 3) ∷ (5, pos 1) ∷ (6, pos 1) ∷ (7, pos 2) ∷ (8, minus 3) ∷ []) ∷
    least (pos 38) ((4, pos 1) ∷ (6, minus 7) ∷ (8, pos 10) ∷ []) ∷
    []
    )

end_83 : end_of system_83 system_83.root 1 ≡ Stopped Pivots 1 (multipliers (pos 180) ((0, pos 1) ∷ []))
unfolding system_83 gcd lowest solution_for elimination next_tableau
end_83 = refl

system_92 : System
system_92 =
    system (pos 3 ∷ pos 0 ∷ pos 1 ∷ []) (pos 12 ∷ pos 2 ∷ pos 3 ∷ []) (pos 17 ∷ pos 1 ∷ pos 0 ∷ [])
    (
    equal (minus 26) ((0, minus 2) ∷ (1, minus 1) ∷ (2, minus 2) ∷ []) ∷
    least (pos 18) ((0, pos 3) ∷ (2, pos 1) ∷ []) ∷
    equal (pos 6) ((2, pos 2) ∷ []) ∷
    []
    )

end_92 : end_of system_92 system_92.root 2 ≡ Stopped Pivots 2 (multipliers (pos 1) ((0, minus 1) ∷ []))
unfolding system_92 gcd lowest solution_for elimination next_tableau
end_92 = refl

system_111 : System
system_111 =
    system (pos 0 ∷ pos 1 ∷ []) (pos 2 ∷ pos 101 ∷ []) (pos 0 ∷ pos 0 ∷ [])
    (
    equal (minus 168) ((1, minus 3) ∷ []) ∷
    least (pos 248) ((0, pos 360) ∷ (1, pos 3) ∷ []) ∷
    least (pos 714) ((0, pos 360) ∷ []) ∷
    least (pos 915) ((1, pos 10) ∷ []) ∷
    equal (pos 3) ((0, pos 1) ∷ (1, pos 2) ∷ []) ∷
    []
    )

end_111 : end_of system_111 system_111.root 1 ≡ Stopped Pivots 1 (multipliers (pos 1) [])
unfolding system_111 gcd lowest solution_for elimination next_tableau
end_111 = refl

system_43 : System
system_43 =
    system (pos 0 ∷ pos 1 ∷ pos 0 ∷ pos 3 ∷ pos 3 ∷ pos 3 ∷ pos 1 ∷ pos 0 ∷ [])
    (pos 100 ∷ pos 1 ∷ pos 100 ∷ pos 8 ∷ pos 3 ∷ pos 5 ∷ pos 101 ∷ pos 9 ∷ []) (pos 2 ∷ pos 1 ∷ pos 17 ∷ pos 1 ∷ pos 0 ∷ pos 5 ∷ pos 1 ∷ pos 1 ∷ [])
    (
    equal (pos 0) [] ∷
    least (minus 6625190679514) ((2, minus 1483405553077) ∷ (3, pos 4430604174349) ∷ (4, minus 2676715431021) ∷ []) ∷
    least (pos 717133100349881) ((0, minus 6002877739505) ∷ (1, pos 2246815654295) ∷ (3, pos 1570728006652) ∷ (4, pos 14503024704865) ∷ (6, pos 10096895698958) ∷ (7, pos 14559728686204) ∷ []) ∷
    least (pos 1094094948405792) ((0, pos 17384364180262) ∷ (1, pos 5956652423463) ∷ (3, minus 3604484435840) ∷ (4, pos 14822458800377) ∷ (6, pos 11221549026370) ∷ (7, minus 7932286988688) ∷ []) ∷
    least (minus 133923879683259) ((0, minus 3441531098820) ∷ (1, minus 318367029210) ∷ (5, pos 3564371138807) ∷ []) ∷
    least (pos 154283576410964) ((0, minus 12175058569346) ∷ (1, minus 13850289190579) ∷ (2, pos 3646509610629) ∷ (3, minus 5829663829464) ∷ (4, pos 3416296575100) ∷ (5, minus 14576708758507) ∷ (6, pos 7598825963489) ∷ (7, pos 16068232818908) ∷ []) ∷
    least (pos 895110205372844) ((0, pos 9362264196810) ∷ (1, pos 7383998465114) ∷ (5, minus 5103355045709) ∷ []) ∷
    least (pos 241300476739950) ((0, minus 15741799448470) ∷ (2, pos 7746776814200) ∷ (3, pos 9307048337760) ∷ (4, minus 3191246940120) ∷ (5, minus 2814567299403) ∷ (6, pos 1662044492041) ∷ (7, pos 13319243634090) ∷ []) ∷
    least (minus 179171253038010) ((1, minus 1264843294660) ∷ (2, minus 16034997410883) ∷ (3, minus 17334646448348) ∷ (7, pos 8875754076086) ∷ []) ∷
    []
    )

end_43 : end_of system_43 system_43.root 20000 ≡ Stopped Wide 1 (multipliers (pos 14559728686204) ((2, pos 1) ∷ []))
unfolding system_43 gcd lowest solution_for elimination next_tableau
end_43 = refl

system_63 : System
system_63 =
    system (pos 0 ∷ pos 3 ∷ pos 0 ∷ []) (pos 20 ∷ pos 8 ∷ pos 9 ∷ []) (pos 0 ∷ pos 0 ∷ pos 0 ∷ [])
    (
    equal (minus 261773664617030) ((0, minus 14385453010832) ∷ (1, pos 5508193542118) ∷ (2, minus 10482831579694) ∷ []) ∷
    equal (pos 29066919583992) ((0, pos 980249860152) ∷ (1, pos 3537486783796) ∷ []) ∷
    least (pos 96237767291806) ((0, minus 14063519912802) ∷ (2, pos 13787660900576) ∷ []) ∷
    []
    )

end_63 : end_of system_63 system_63.root 2 ≡ Stopped Wide 1 (multipliers (pos 1) [])
unfolding system_63 gcd lowest solution_for elimination next_tableau
end_63 = refl

system_67 : System
system_67 =
    system (pos 0 ∷ pos 3 ∷ []) (pos 100 ∷ pos 103 ∷ []) (pos 1 ∷ pos 5 ∷ [])
    (
    least (pos 817760967861592) ((0, pos 5335527166649) ∷ (1, pos 14452079216575) ∷ []) ∷
    least (pos 64597674096240) ((0, pos 2153255803208) ∷ []) ∷
    equal (minus 386886103717725) ((0, minus 10886215864309) ∷ (1, pos 5725831589710) ∷ []) ∷
    []
    )

end_67 : end_of system_67 system_67.root 2 ≡ Stopped Wide 1 (multipliers (pos 5335527166649) ((0, pos 1) ∷ []))
unfolding system_67 gcd lowest solution_for elimination next_tableau
end_67 = refl

system_70 : System
system_70 =
    system (pos 0 ∷ pos 0 ∷ []) (pos 1 ∷ pos 20 ∷ []) (pos 1 ∷ pos 0 ∷ [])
    (
    equal (pos 80120452041970) ((0, minus 6000631115792) ∷ (1, pos 16024090408394) ∷ []) ∷
    least (pos 187384706899565) ((0, pos 6331473787925) ∷ (1, pos 15087769425970) ∷ []) ∷
    least (pos 21740656787167) ((0, pos 11375585145482) ∷ (1, pos 2073014328337) ∷ []) ∷
    []
    )

end_70 : end_of system_70 system_70.root 20000 ≡ Stopped Wide 1 (multipliers (pos 1) [])
unfolding system_70 gcd lowest solution_for elimination next_tableau
end_70 = refl

system_106 : System
system_106 =
    system (pos 0 ∷ pos 3 ∷ pos 0 ∷ pos 3 ∷ pos 3 ∷ pos 1 ∷ pos 0 ∷ [])
    (pos 9 ∷ pos 4 ∷ pos 9 ∷ pos 4 ∷ pos 5 ∷ pos 2 ∷ pos 20 ∷ []) (pos 1 ∷ pos 2 ∷ pos 17 ∷ pos 17 ∷ pos 0 ∷ pos 17 ∷ pos 1 ∷ [])
    (
    least (minus 120600099919656) ((0, minus 13400011102184) ∷ []) ∷
    least (pos 109137397858284) ((0, pos 16982929238453) ∷ (5, minus 13363018024670) ∷ []) ∷
    least (pos 104404297832077) ((0, pos 3620001483474) ∷ (5, pos 13584813772026) ∷ (6, pos 5758289596601) ∷ []) ∷
    equal (minus 48781988666245) ((0, minus 13296915687046) ∷ (6, pos 338898006303) ∷ []) ∷
    equal (minus 61411965830373) ((1, minus 3116385065883) ∷ (4, minus 13015702658181) ∷ []) ∷
    equal (pos 373168687964495) ((0, pos 11271951305264) ∷ (1, pos 776773016611) ∷ (2, minus 6080047744796) ∷ (3, pos 17114089116474) ∷ (4, minus 1332474893897) ∷ (6, pos 12630513290430) ∷ []) ∷
    least (pos 103289396548911) ((0, minus 7103872432697) ∷ (2, minus 6485258023829) ∷ (6, pos 13659904517895) ∷ []) ∷
    equal (pos 114302494501721) ((0, pos 3523754809571) ∷ (2, pos 16218105823326) ∷ (3, pos 9647873994616) ∷ (4, minus 8110926729035) ∷ (5, pos 8314595467551) ∷ []) ∷
    equal (pos 15288388581842) ((0, minus 2607946666534) ∷ (2, pos 7130641402212) ∷ (3, minus 16411130911019) ∷ (5, pos 10618513564895) ∷ (6, pos 4353712312873) ∷ []) ∷
    []
    )

end_106 : end_of system_106 system_106.root 20000 ≡ Stopped Wide 1 (multipliers (pos 16982929238453) ((1, pos 1) ∷ []))
unfolding system_106 gcd lowest solution_for elimination next_tableau
end_106 = refl

system_120 : System
system_120 =
    system (pos 3 ∷ pos 1 ∷ pos 0 ∷ pos 1 ∷ pos 0 ∷ [])
    (pos 12 ∷ pos 101 ∷ pos 20 ∷ pos 10 ∷ pos 0 ∷ []) (pos 5 ∷ pos 1 ∷ pos 17 ∷ pos 1 ∷ pos 0 ∷ [])
    (
    least (pos 40321463907682) ((2, pos 6780389153992) ∷ (3, minus 11420938928742) ∷ []) ∷
    equal (pos 1308631037181289) ((0, pos 16250452164145) ∷ (1, pos 16327390130124) ∷ (2, pos 5502467123907) ∷ (3, pos 1614006903519) ∷ (4, pos 15533537497378) ∷ []) ∷
    least (pos 254592901630892) ((0, minus 6512198679507) ∷ (1, pos 3828815807147) ∷ (2, pos 6749207476153) ∷ (3, pos 4558572034353) ∷ (4, minus 7216728433486) ∷ []) ∷
    least (minus 144413359330329) ((0, minus 11712642282873) ∷ (3, minus 4333286531608) ∷ []) ∷
    least (pos 373564242776940) ((0, pos 5693192405314) ∷ (1, pos 9909364124871) ∷ (2, minus 11994435053073) ∷ (3, minus 15920127872262) ∷ (4, minus 8415139939266) ∷ []) ∷
    []
    )

end_120 : end_of system_120 system_120.root 20000 ≡ Stopped Wide 1 (multipliers (pos 6780389153992) ((0, pos 17) ∷ []))
unfolding system_120 gcd lowest solution_for elimination next_tableau
end_120 = refl

system_128 : System
system_128 =
    system (pos 0 ∷ pos 3 ∷ pos 0 ∷ pos 0 ∷ pos 0 ∷ pos 0 ∷ pos 3 ∷ pos 0 ∷ pos 1 ∷ [])
    (pos 5 ∷ pos 8 ∷ pos 2 ∷ pos 100 ∷ pos 100 ∷ pos 20 ∷ pos 5 ∷ pos 20 ∷ pos 3 ∷ []) (pos 1 ∷ pos 2 ∷ pos 1 ∷ pos 5 ∷ pos 5 ∷ pos 0 ∷ pos 5 ∷ pos 0 ∷ pos 0 ∷ [])
    (
    least (pos 709144911034843) ((0, pos 391638660592) ∷ (2, pos 15390357296493) ∷ (3, pos 7229741633077) ∷ (5, minus 15914351265860) ∷ (6, pos 1058813612994) ∷ (7, pos 13953357899306) ∷ (8, minus 6106535111680) ∷ []) ∷
    least (pos 1162239928524138) ((0, minus 3603488024752) ∷ (1, minus 7820919388163) ∷ (2, minus 5675781582895) ∷ (3, pos 11364287804917) ∷ (4, pos 3398643665324) ∷ (7, pos 6178272172401) ∷ (8, pos 10447430242310) ∷ []) ∷
    []
    )

end_128 : end_of system_128 system_128.root 20000 ≡ Stopped Wide 1 (multipliers (pos 1) [])
unfolding system_128 gcd lowest solution_for elimination next_tableau
end_128 = refl
