use Rattle.std.proofs.Common.{◌≡◌, ◌++◌, ◌+◌, ◌-◌, List, ℕ, Some, length, option_map, slice_get, rules, arith, ap}
use Rattle.std.proofs.Common.{sym, ◌∙◌}
use Rattle.std.proofs.lemmas.Bool.{le-leb}
use Rattle.pt_node.specs.Laws.NameOrder.{seen}
use Rattle.pt_node.specs.Node.{names_in}
use Rattle.pt_rules.specs.ListCalls.{before_others, record_at, record_size, records}
use Rattle.pt_change.proofs.Listed.{record_fits, stands_at, stands_on}
use Rattle.pt_change.proofs.records.records_from.Goals as goal

pub returns-then-record-left-clause-next : goal.returns-then-record-left-clause-next
returns-then-record-left-clause-next c =
    let names = names_in c.args.dir.now.content in
    let name = c.in-Some-2.name.now.items in
    let stands = sym (ap seen c.in-Some-2.ensures.steps) ∙ c.loop-name.invariant.stands in
    let copy : c.in_ok-to_vec.field-0.items ≡ name = search rules in
    ap (option_map (λ (entry : List ℕ × ℕ). entry.0))
    (stands_at names c.loop-name.listed.place (name, c.in-Some-2.object.now) (seen c.next.new.self) stands)
    ∙ ap (λ (n : List ℕ). Some n) (sym copy)

pub loop-name-preserved : goal.loop-name-preserved
loop-name-preserved c =
    let names = names_in c.args.dir.now.content in
    let nodes = c.args.nodes.now in
    let place = c.loop-name.listed.place in
    let left = c.loop-name.left in
    let bytes = c.loop-name.listed.bytes.items in
    let entry : List ℕ × ℕ = (c.in-Some-2.name.now.items, c.in-Some-2.object.now) in
    let more = seen c.next.new.self in
    let steps = ap seen c.in-Some-2.ensures.steps in
    let size : c.record_size-record.result ≡ record_size entry.0 =
    c.record_size-record.ensures ∙ ap record_size c.deref.ensures.value in
    let fits = le-leb (record_size entry.0) left (let test = c.if-record-left.false in omega (arith, size, test)) in
    let pushed : c.push_record_at.new.out.items ≡ bytes ++ record_at (place + 1) entry.0 (slice_get nodes entry.1) =
    c.in_ok-push_record_at.ensures
    ∙ ap (λ (q : List ℕ). bytes ++ record_at (place + 1) q (slice_get nodes entry.1))
    c.deref-in-loop-name.ensures.value in
    record {
      next = c.loop-name.invariant.next;
      few = (let few = c.loop-name.invariant.few in let one = ap length c.in-Some-2.ensures.steps in
          omega (arith, few, one));
      stands = stands_on names place entry more (sym steps ∙ c.loop-name.invariant.stands);
      rest = ap (λ (bs : List ℕ).
          before_others bs (records (left - c.record_size-record.result) (place + 1) nodes more))
          pushed
          ∙ ap (λ (n : ℕ). before_others (bytes ++ record_at (place + 1) entry.0 (slice_get nodes entry.1))
          (records (left - n) (place + 1) nodes more)) size
          ∙ sym (record_fits bytes left place nodes entry more fits)
          ∙ ap (λ (es : List (List ℕ × ℕ)). before_others bytes (records left place nodes es)) (sym steps)
          ∙ c.loop-name.invariant.rest;
    }
