-- Deliveries of a command that also read, and of one that stopped before it gave anything.
use Rattle.std.proofs.Common.{ℕ, ◌≤◌, List, [], ◌∷◌, inl, inr, refl, Option, arith}
use Rattle.opt_base.specs.Outside.{Files, Rose}
use Rattle.opt_reply.specs.declared.TheConstants.{OUTSIDE, MEMORY}
use Rattle.opt_reply.specs.Answer.{Put, Answer}
use Rattle.opt_reply.specs.Delivery.{Standing, Faults, PutsSome, GivesSome, SomeRose, NoneFell, Delivers}

-- a count that rose after it did not fall, rose
rose_after : (first before now : ℕ) → first ≤ before → Rose before now → Rose first now
rose_after first before now later rose = omega arith

-- a count that rose and then did not fall, rose
rose_before : (before now last : ℕ) → Rose before now → now ≤ last → Rose before last
rose_before before now last rose later = omega arith

-- one of the counts rose after none fell
pub some_rose_after : (first before now : Faults) → NoneFell first before → SomeRose before now → SomeRose first now
some_rose_after first before now fell (inl shelf) = inl (rose_after first.shelf before.shelf now.shelf fell.shelf shelf)
some_rose_after first before now fell (inr (inl out)) = inr (inl (rose_after first.out before.out now.out fell.out out))
some_rose_after first before now fell (inr (inr err)) = inr (inr (rose_after first.err before.err now.err fell.err err))

-- one of the counts rose before none fell
pub some_rose_before : (before now last : Faults) → SomeRose before now → NoneFell now last → SomeRose before last
some_rose_before before now last (inl shelf) fell = inl (rose_before before.shelf now.shelf last.shelf shelf fell.shelf)
some_rose_before before now last (inr (inl out)) fell = inr (inl (rose_before before.out now.out last.out out fell.out))
some_rose_before before now last (inr (inr err)) fell = inr (inr (rose_before before.err now.err last.err err fell.err))

-- no count fell over two calls
pub none_fell_twice : (first before now : Faults) → NoneFell first before → NoneFell before now → NoneFell first now
none_fell_twice first before now one two = record {
  shelf = (let a = one.shelf in let b = two.shelf in omega arith);
  out = (let a = one.out in let b = two.out in omega arith);
  err = (let a = one.err in let b = two.err in omega arith);
}

-- a delivery after calls that only read
pub delivers_after : (answer : Answer) (status : ℕ) (old new : Standing) (first before now : Faults)
    → NoneFell first before → Delivers answer status old new before now → Delivers answer status old new first now
delivers_after answer status old new first before now fell given = record {
  ends = given.ends;
  early = given.early;
  outside = λ at. some_rose_after first before now fell (given.outside at);
  complete = λ none. given.complete (λ rose. none (some_rose_after first before now fell rose));
  later = none_fell_twice first before now fell given.later;
  told = given.told;
}

-- none of the puts were made
puts_none : (puts : List Put) (files : Option Files) → PutsSome puts files files
puts_none [] files = refl
puts_none (put ∷ more) files = inl refl

-- nothing of an answer was given
gives_nothing : (answer : Answer) (old : Standing) → GivesSome answer old old
gives_nothing answer old = inl (record { files = puts_none answer.puts old.files; out = refl; err = refl })

-- the outside failed before anything of the answer was given
pub delivers_outside : (answer : Answer) (old : Standing) (before now : Faults)
    → NoneFell before now → SomeRose before now → Delivers answer OUTSIDE old old before now
delivers_outside answer old before now fell rose = record {
  ends = λ differs _. absurd (differs refl);
  early = λ _. gives_nothing answer old;
  outside = λ _. rose;
  complete = λ none. absurd (none rose);
  later = fell;
  told = record { files = refl; out = refl; err = refl };
}

-- memory ran out before anything of the answer was given
pub delivers_memory : (answer : Answer) (old : Standing) (before now : Faults)
    → NoneFell before now → Delivers answer MEMORY old old before now
delivers_memory answer old before now fell = record {
  ends = λ _ differs. absurd (differs refl);
  early = λ _. gives_nothing answer old;
  outside = λ at. (cc);
  complete = λ _. inr refl;
  later = fell;
  told = record { files = refl; out = refl; err = refl };
}
