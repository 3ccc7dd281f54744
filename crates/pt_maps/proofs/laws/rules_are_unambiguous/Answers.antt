use Rattle.pt_maps.proofs.Unambiguous.{meet_in_an_id, have_one_rule, forbidden_alone, map_both_ways}
use Rattle.pt_maps.proofs.laws.rules_are_unambiguous.Goals as goal

pub returns : goal.returns
returns c = record {
  meeting = meet_in_an_id;
  one_rule = have_one_rule;
  forbidden = forbidden_alone;
  both_ways =
      map_both_ways;
}
