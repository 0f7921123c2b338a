-- What a search keeps from step to step, with what its guide may answer at its begin and now.
use Rattle.std.proofs.Common.{◌≤◌, ℕ, List, length, Option, ℤ}
use Rattle.opt_system.specs.Ranges.{Range}
use Rattle.opt_system.specs.Systems.{System}
use Rattle.opt_guide.specs.Relations.{OfMultipliers, OfCandidates, OfCuts, AllowsSame}
use Rattle.opt_search.specs.declared.state.State.{State}
use Rattle.opt_search.specs.Guided.{WasOpen}
use Rattle.opt_search.specs.State.{IsSound, IsLed, IsComplete}
use Rattle.opt_search.proofs.GuideSteps.{allows_twice, allows_back, line_before, leaf_line_before, cut_before, weighs_before}

-- what the search kept of the guide's answers after a call of it, it kept of those before
open_before : (w w' : OfMultipliers) (t t' : OfCandidates) (c c' : OfCuts) (s : System) (gap root_bound : ℤ) (first : Option (List ℤ)) (box : Range) → AllowsSame w w' t t' c c' → WasOpen w' s gap root_bound first box → WasOpen w s gap root_bound first box
open_before w w' t t' c c' s gap root_bound first box same h = record {
  line = h.line;
  is_line = line_before w w' t t' c c' s box h.line same h.is_line;
  bound = h.bound;
  shown = h.shown;
  below = h.below;
}

led_before : (w w' : OfMultipliers) (t t' : OfCandidates) (c c' : OfCuts) (s : System) (gap : ℤ) (first : Option (List ℤ)) (st : State) → AllowsSame w w' t t' c c' → IsLed w' t' c' s gap first st → IsLed w t c s gap first st
led_before w w' t t' c c' s gap first st same led = record {
  root_line = line_before w w' t t' c c' s s.root st.root same led.root_line;
  leaf_lines = λ i is. leaf_line_before w w' t t' c c' s _ _ same (led.leaf_lines i is);
  cuts = λ i j v l r below kind. cut_before w w' t t' c c' s _ j v same (led.cuts i j v l r below kind);
  candidates = λ i below. weighs_before w w' t t' c c' s _ _ same (led.candidates i below);
  first_tried = (same.candidates s s.root first).1 led.first_tried;
  first_weighed = led.first_weighed;
  opened = λ i j v l r below kind. open_before w w' t t' c c' s gap st.root_bound first _ same (led.opened i j v l r below kind);
}

pub record Searches (w w' : OfMultipliers) (t t' : OfCandidates) (c c' : OfCuts) (s : System) (gap : ℤ) (limit : ℕ) (st : State) : Type 0 where
  pub sound : IsSound s gap st
  pub complete : IsComplete st
  pub few : length st.tree.nodes ≤ limit
  pub first : Option (List ℤ)
  pub led : IsLed w t c s gap first st
  pub same : AllowsSame w w' t t' c c'

-- one step more, after which the guide may answer what it might before
pub searches_more : (w w' w'' : OfMultipliers) (t t' t'' : OfCandidates) (c c' c'' : OfCuts) (s : System) (gap : ℤ) (limit : ℕ) (old new : State) → Searches w w' t t' c c' s gap limit old → IsSound s gap new → IsComplete new → length new.tree.nodes ≤ limit → ((first : Option (List ℤ)) → IsLed w' t' c' s gap first old → IsLed w' t' c' s gap first new) → AllowsSame w' w'' t' t'' c' c'' → Searches w w'' t t'' c c'' s gap limit new
searches_more w w' w'' t t' t'' c c' c'' s gap limit old new searches sound complete few led same = record {
  sound = sound;
  complete = complete;
  few = few;
  first = searches.first;
  led =
      led_before w w' t t' c c' s gap searches.first new searches.same
      (led searches.first (led_before w' w t' t c' c s gap searches.first old (allows_back w w' t t' c c' searches.same) searches.led));
  same = allows_twice w w' w'' t t' t'' c c' c'' searches.same same;
}
