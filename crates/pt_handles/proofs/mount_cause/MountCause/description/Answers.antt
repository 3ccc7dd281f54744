use Rattle.std.proofs.Common.{◌≡◌, ◌∙◌, ◌++◌, ℕ, List, String, Global, FitsSigned, ap, sym, rules}
use Rattle.std.specs.Prelude.{Result, Ok, Err, IfOk}
use Rattle.std.specs.Int.{w32}
use Rattle.std.proofs.lemmas.Int.{to_z-of_z}
use Rattle.std.specs.Borrow.{Bor}
use Rattle.std.specs.String.{string_bytes}
use Rattle.pt_handles.specs.MountErrors.{description}
use Rattle.pt_handles.specs.declared.mount_cause.MountCause.{MountCause}
use Rattle.pt_handles.proofs.mount_cause.MountCause.description.Goals as goal
use Rattle.pt_handles.proofs.mount_cause.MountCause.description.Goals.{in-HasNul+in_ok-back-in-HasNul}
use Rattle.pt_handles.proofs.mount_cause.MountCause.description.Goals.{in-NotOpened+in_ok-back-in-NotOpened}
use Rattle.pt_handles.proofs.mount_cause.MountCause.description.Goals.{in-NoStatus+in_ok-back-in-NoStatus}
use Rattle.pt_handles.proofs.mount_cause.MountCause.description.Goals.{in-OtherMount+in_ok-back-in-OtherMount}
use Rattle.pt_handles.proofs.mount_cause.MountCause.description.Goals.{in-OtherKind+in_ok-back-in-OtherKind}
use Rattle.pt_handles.proofs.mount_cause.MountCause.description.Goals.{in-NotReopened+in_ok-back-in-NotReopened}

text_is : {E : Type 0} (told : Result (List ℕ) E) (one other : List ℕ) → IfOk told (λ text. text ≡ one) → one ≡ other →
    IfOk told (λ text. text ≡ other)
text_is (Ok text) one other is same = is ∙ same
text_is (Err why) one other is same = tt

-- what stands before the point and behind it
told_of : (given : Bor (List ℕ) × String Global) (front : Bor (List ℕ)) (back : String Global)
    (point shown behind whole : List ℕ) → given ≡ (front, back) → shown ≡ string_bytes given.1 →
    string_bytes back ≡ behind → front.now ++ (point ++ behind) ≡ whole → given.0.now ++ (point ++ shown) ≡ whole
told_of given front back point shown behind whole is shows tells so =
    ap (λ (l : List ℕ). given.0.now ++ (point ++ l)) shows
    ∙ ap (λ (p : Bor (List ℕ) × String Global). p.0.now ++ (point ++ string_bytes p.1)) is
    ∙ ap (λ (l : List ℕ). front.now ++ (point ++ l)) tells ∙ so

pub returns : goal.returns
returns c =
    let point = c.args.point.now in
    let shown = c.as_str.result.now in
    elim c.match-self.branch [
      | in-HasNul+in_ok-back-in-HasNul w ↦
          text_is c.around.result _ _ c.around.ensures
          (told_of c.match-self.back _ w.in_ok-back-in-HasNul.back point shown _ _ w.back-is c.as_str.ensures.value
          w.in_ok-back-in-HasNul.ensures.ok
          (ap (λ (why : MountCause). description c.args.id point why) (sym w.in-HasNul.is)))
      | in-NotOpened+in_ok-back-in-NotOpened w ↦
          let fits : FitsSigned w32 w.in-NotOpened.errno.0 = search rules in
          let told = simp to_z-of_z at w.in_ok-back-in-NotOpened.ensures.ok in
          text_is c.around.result _ _ c.around.ensures
          (told_of c.match-self.back _ w.in_ok-back-in-NotOpened.back point shown _ _ w.back-is c.as_str.ensures.value
          told (ap (λ (why : MountCause). description c.args.id point why) (sym w.in-NotOpened.is)))
      | in-NoStatus+in_ok-back-in-NoStatus w ↦
          let fits : FitsSigned w32 w.in-NoStatus.errno.0 = search rules in
          let told = simp to_z-of_z at w.in_ok-back-in-NoStatus.ensures.ok in
          text_is c.around.result _ _ c.around.ensures
          (told_of c.match-self.back _ w.in_ok-back-in-NoStatus.back point shown _ _ w.back-is c.as_str.ensures.value
          told (ap (λ (why : MountCause). description c.args.id point why) (sym w.in-NoStatus.is)))
      | in-OtherMount+in_ok-back-in-OtherMount w ↦
          text_is c.around.result _ _ c.around.ensures
          (told_of c.match-self.back _ w.in_ok-back-in-OtherMount.back point shown _ _ w.back-is c.as_str.ensures.value
          w.in_ok-back-in-OtherMount.ensures.ok
          (ap (λ (why : MountCause). description c.args.id point why) (sym w.in-OtherMount.is)))
      | in-OtherKind+in_ok-back-in-OtherKind w ↦
          text_is c.around.result _ _ c.around.ensures
          (told_of c.match-self.back _ w.in_ok-back-in-OtherKind.back point shown _ _ w.back-is c.as_str.ensures.value
          w.in_ok-back-in-OtherKind.ensures.ok
          (ap (λ (why : MountCause). description c.args.id point why) (sym w.in-OtherKind.is)))
      | in-NotReopened+in_ok-back-in-NotReopened w ↦
          let fits : FitsSigned w32 w.in-NotReopened.errno.0 = search rules in
          let told = simp to_z-of_z at w.in_ok-back-in-NotReopened.ensures.ok in
          text_is c.around.result _ _ c.around.ensures
          (told_of c.match-self.back _ w.in_ok-back-in-NotReopened.back point shown _ _ w.back-is c.as_str.ensures.value
          told (ap (λ (why : MountCause). description c.args.id point why) (sym w.in-NotReopened.is)))
    ]
