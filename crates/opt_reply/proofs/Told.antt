-- What is given in part leaves what is told.
use Rattle.std.proofs.Common.{◌≡◌, List, [], ◌∷◌, inl, inr, Option, Some, None, option_map, is_some, refl, sym, ap, ◌∙◌}
use Rattle.opt_base.specs.Outside.{Files, written, without, appended}
use Rattle.opt_reply.specs.Answer.{Put, Answer}
use Rattle.opt_reply.specs.Delivery.{Standing, put_in_order, PutsSome, GivesSome, SameTold}

-- a map keeps whether there is a value
is_some-option_map : {X Y : Type 0} (f : X → Y) (x : Option X) → is_some (option_map f x) ≡ is_some x
is_some-option_map f None = refl
is_some-option_map f (Some x) = refl

-- where a value is that of another mapped, both are there or neither is
told_by_map : {X Y : Type 0} (f : X → Y) (old : Option X) (new : Option Y) → new ≡ option_map f old → is_some new ≡ is_some old
told_by_map f old new made = ap is_some made ∙ is_some-option_map f old

told_by_puts : (puts : List Put) (old new : Option Files) → PutsSome puts old new → is_some new ≡ is_some old
told_by_puts [] old new same = ap is_some same
told_by_puts (put ∷ more) old new (inl others) =
    sym (is_some-option_map (without put.0) new) ∙ told_by_map (without put.0) old _ others
told_by_puts (put ∷ more) old new (inr made) =
    told_by_puts more _ new made ∙ is_some-option_map (written put.0 put.1) old

pub told_by_some : (answer : Answer) (old new : Standing) → GivesSome answer old new → SameTold old new
told_by_some answer old new (inl at_puts) = record {
  files = told_by_puts answer.puts old.files new.files at_puts.files;
  out = ap is_some at_puts.out;
  err = ap is_some at_puts.err;
}
told_by_some answer old new (inr (inl at_out)) = record {
  files = told_by_map (put_in_order answer.puts) old.files new.files at_out.files;
  out = told_by_map _ old.out new.out at_out.out.1;
  err = ap is_some at_out.err;
}
told_by_some answer old new (inr (inr at_err)) = record {
  files = told_by_map (put_in_order answer.puts) old.files new.files at_err.files;
  out = told_by_map (appended answer.printed) old.out new.out at_err.out;
  err = told_by_map _ old.err new.err at_err.err.1;
}
