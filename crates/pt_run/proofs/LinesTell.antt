-- The lines of a report tell what they print.
use Rattle.std.proofs.Common.{◌≡◌, ℕ, ◌+◌, true, false, List, [], ◌∷◌, ◌++◌, refl, ap, sym, ◌∙◌, append_assoc}
use Rattle.std.proofs.Common.{nat_eq}
use Rattle.std.specs.Prelude.{codes}
use Rattle.std.proofs.lemmas.List.{append_cancel_left, append_cancel_right}
use Rattle.pt_iface.specs.declared.answer.Answer.{Answer}
use Rattle.pt_frame.specs.declared.act.KeptAct.{KeptAct}
use Rattle.pt_frame.specs.declared.act.ActReply.{ActReply}
use Rattle.pt_fs.specs.declared.trace.TraceStep.{TraceStep}
use Rattle.pt_show.specs.Texts.{number_text}
use Rattle.pt_show.specs.ActTexts.{act_text, act_reply_text}
use Rattle.pt_show.specs.AnswerTexts.{answer_text}
use Rattle.pt_show.proofs.Values.{texts_tell}
use Rattle.pt_run.specs.Report.{step_line, step_lines, answer_line, answer_lines}
use Rattle.pt_run.specs.TableLines.{pair_line, pair_lines, live_lines, handle_lines, slots_line}

-- the second byte, by which the kinds of lines differ
abbrev mark : List ℕ → ℕ
mark [] = 0
mark (c ∷ []) = 0
mark (c ∷ d ∷ rest) = d

abbrev IsOther : ℕ → List ℕ → Type 0
IsOther kind text = nat_eq (mark text) kind ≡ false

-- a text does not begin with a line of this kind and with none
clash : (kind : ℕ) (text line : List ℕ) → nat_eq kind kind ≡ true → mark line ≡ kind → IsOther kind text → text ≡
    line → ⊥
clash kind text line same is other e =
    let now : nat_eq (mark text) kind ≡ true = ap (λ (t : List ℕ). nat_eq (mark t) kind) e ∙ ap
    (λ (m : ℕ). nat_eq m kind) is ∙ same in
    cc (sym other ∙ now)

-- one step's line, and what follows it
step_parts : (job : ℕ) (act : KeptAct) (reply : ActReply) (rest : List ℕ) →
    step_line job act reply ++ rest
    ≡ codes "step" ++ (number_text job ++ (act_text act ++ (codes " =" ++ (act_reply_text reply ++ (10 ∷ rest)))))
step_parts job act reply rest = simp append_assoc

step_tells : (job job' : ℕ) (act act' : KeptAct) (reply reply' : ActReply) (rest rest' : List ℕ) →
    step_line job act reply ++ rest ≡ step_line job' act' reply' ++ rest' →
    (job ≡ job') × (act ≡ act') × (reply ≡ reply') × (rest ≡ rest')
step_tells job job' act act' reply reply' rest rest' e =
    let behind : List ℕ = codes " =" ++ (act_reply_text reply ++ (10 ∷ rest)) in
    let behind' : List ℕ = codes " =" ++ (act_reply_text reply' ++ (10 ∷ rest')) in
    let jobs = texts_tell.numbers.followed job job' (act_text act ++ behind) (act_text act' ++ behind')
    (texts_tell.acts.parted act behind (refl, refl)) (texts_tell.acts.parted act' behind' (refl, refl))
    (append_cancel_left (codes "step") (number_text job ++ (act_text act ++ behind))
    (number_text job' ++ (act_text act' ++ behind'))
    (sym (step_parts job act reply rest) ∙ e ∙ step_parts job' act' reply' rest')) in
    let acts = texts_tell.acts.followed act act' behind behind' (refl, refl) (refl, refl) jobs.1 in
    let replies = texts_tell.act_replies.followed reply reply' (10 ∷ rest) (10 ∷ rest') (refl, refl) (refl, refl)
    (append_cancel_left (codes " =") (act_reply_text reply ++ (10 ∷ rest)) (act_reply_text reply' ++ (10 ∷ rest'))
    acts.1) in
    (jobs.0, acts.0, replies.0, append_cancel_left (10 ∷ []) rest rest' replies.1)

steps_tell : (steps steps' : List TraceStep) (rest rest' : List ℕ) → IsOther 116 rest → IsOther 116 rest' →
    step_lines steps ++ rest ≡ step_lines steps' ++ rest' → (steps ≡ steps') × (rest ≡ rest')
steps_tell [] [] rest rest' p q e = (refl, e)
steps_tell [] (step ∷ steps) rest rest' p q e =
    absurd (clash 116 rest (step_lines (step ∷ steps) ++ rest') refl refl p e)
steps_tell (step ∷ steps) [] rest rest' p q e =
    absurd (clash 116 rest' (step_lines (step ∷ steps) ++ rest) refl refl q (sym e))
steps_tell (step ∷ steps) (step' ∷ steps') rest rest' p q e =
    let one = step_tells step.job step'.job step.act step'.act step.reply step'.reply (step_lines steps ++ rest)
    (step_lines steps' ++ rest')
    (sym (append_assoc (step_line step.job step.act step.reply) (step_lines steps) rest) ∙ e
    ∙ append_assoc (step_line step'.job step'.act step'.reply) (step_lines steps') rest') in
    let more = steps_tell steps steps' rest rest' p q one.3 in
    ((λ i. record { job = one.0 i; act = one.1 i; reply = one.2 i } ∷ more.0 i), more.1)

answer_parts : (job : ℕ) (answer : Answer) (rest : List ℕ) →
    answer_line job answer ++ rest ≡ (codes "answer" ++ number_text job) ++ (answer_text answer ++ (10 ∷ rest))
answer_parts job answer rest = simp append_assoc

answers_tell : (job : ℕ) (answers answers' : List Answer) (rest rest' : List ℕ) → IsOther 110 rest →
    IsOther 110 rest' → answer_lines job answers ++ rest ≡ answer_lines job answers' ++ rest' →
    (answers ≡ answers') × (rest ≡ rest')
answers_tell job [] [] rest rest' p q e = (refl, e)
answers_tell job [] (answer ∷ answers) rest rest' p q e =
    absurd (clash 110 rest (answer_lines job (answer ∷ answers) ++ rest') refl refl p e)
answers_tell job (answer ∷ answers) [] rest rest' p q e =
    absurd (clash 110 rest' (answer_lines job (answer ∷ answers) ++ rest) refl refl q (sym e))
answers_tell job (answer ∷ answers) (answer' ∷ answers') rest rest' p q e =
    let behind : List ℕ = answer_lines (job + 1) answers ++ rest in
    let behind' : List ℕ = answer_lines (job + 1) answers' ++ rest' in
    let whole : answer_line job answer ++ behind ≡ answer_line job answer' ++ behind' =
    sym (append_assoc (answer_line job answer) (answer_lines (job + 1) answers) rest) ∙ e
    ∙ append_assoc (answer_line job answer') (answer_lines (job + 1) answers') rest' in
    let one = texts_tell.answers.followed answer answer' (10 ∷ behind) (10 ∷ behind') refl refl
    (append_cancel_left (codes "answer" ++ number_text job) (answer_text answer ++ (10 ∷ behind))
    (answer_text answer' ++ (10 ∷ behind'))
    (sym (answer_parts job answer behind) ∙ whole ∙ answer_parts job answer' behind')) in
    let more = answers_tell (job + 1) answers answers' rest rest' p q
    (append_cancel_left (10 ∷ []) behind behind' one.1) in
    ((λ i. one.0 i ∷ more.0 i), more.1)

pair_parts : (name : List ℕ) (pair : ℕ × ℕ) (rest : List ℕ) →
    pair_line name pair ++ rest ≡ name ++ (number_text pair.0 ++ (number_text pair.1 ++ (10 ∷ rest)))
pair_parts name pair rest = simp append_assoc

pairs_begin : (name : List ℕ) (kind : ℕ) → ((rest : List ℕ) → mark (name ++ rest) ≡ kind) → (pair : ℕ × ℕ)
    (pairs : List (ℕ × ℕ)) (rest : List ℕ) → mark (pair_lines name (pair ∷ pairs) ++ rest) ≡ kind
pairs_begin name kind is pair pairs rest =
    ap mark (append_assoc (pair_line name pair) (pair_lines name pairs) rest
    ∙ pair_parts name pair (pair_lines name pairs ++ rest)) ∙ is _

pairs_tell : (name : List ℕ) (kind : ℕ) → nat_eq kind kind ≡ true → ((rest : List ℕ) → mark (name ++ rest) ≡ kind) →
    (pairs pairs' : List (ℕ × ℕ)) (rest rest' : List ℕ) → IsOther kind rest → IsOther kind rest' →
    pair_lines name pairs ++ rest ≡ pair_lines name pairs' ++ rest' → (pairs ≡ pairs') × (rest ≡ rest')
pairs_tell name kind same is [] [] rest rest' p q e = (refl, e)
pairs_tell name kind same is [] (pair ∷ pairs) rest rest' p q e =
    absurd (clash kind rest (pair_lines name (pair ∷ pairs) ++ rest') same
    (pairs_begin name kind is pair pairs rest') p e)
pairs_tell name kind same is (pair ∷ pairs) [] rest rest' p q e =
    absurd (clash kind rest' (pair_lines name (pair ∷ pairs) ++ rest) same (pairs_begin name kind is pair pairs rest)
    q (sym e))
pairs_tell name kind same is (pair ∷ pairs) (pair' ∷ pairs') rest rest' p q e =
    let behind : List ℕ = pair_lines name pairs ++ rest in
    let behind' : List ℕ = pair_lines name pairs' ++ rest' in
    let whole : pair_line name pair ++ behind ≡ pair_line name pair' ++ behind' =
    sym (append_assoc (pair_line name pair) (pair_lines name pairs) rest) ∙ e
    ∙ append_assoc (pair_line name pair') (pair_lines name pairs') rest' in
    let first = texts_tell.numbers.followed pair.0 pair'.0 (number_text pair.1 ++ (10 ∷ behind))
    (number_text pair'.1 ++ (10 ∷ behind')) refl refl
    (append_cancel_left name (number_text pair.0 ++ (number_text pair.1 ++ (10 ∷ behind)))
    (number_text pair'.0 ++ (number_text pair'.1 ++ (10 ∷ behind')))
    (sym (pair_parts name pair behind) ∙ whole ∙ pair_parts name pair' behind')) in
    let second = texts_tell.numbers.followed pair.1 pair'.1 (10 ∷ behind) (10 ∷ behind') refl refl first.1 in
    let more = pairs_tell name kind same is pairs pairs' rest rest' p q
    (append_cancel_left (10 ∷ []) behind behind' second.1) in
    ((λ i. (first.0 i, second.0 i) ∷ more.0 i), more.1)

slots_parts : (slots : ℕ) (rest : List ℕ) → slots_line slots ++ rest ≡ codes "slots" ++
    (number_text slots ++ (10 ∷ rest))
slots_parts slots rest = simp append_assoc

slots_tell : (slots slots' : ℕ) (rest rest' : List ℕ) → slots_line slots ++ rest ≡ slots_line slots' ++ rest' →
    (slots ≡ slots') × (rest ≡ rest')
slots_tell slots slots' rest rest' e =
    let one = texts_tell.numbers.followed slots slots' (10 ∷ rest) (10 ∷ rest') refl refl
    (append_cancel_left (codes "slots") (number_text slots ++ (10 ∷ rest)) (number_text slots' ++ (10 ∷ rest'))
    (sym (slots_parts slots rest) ∙ e ∙ slots_parts slots' rest')) in
    (one.0, append_cancel_left (10 ∷ []) rest rest' one.1)

-- lines of one kind before another
other_pairs : (name : List ℕ) (mine kind : ℕ) → ((rest : List ℕ) → mark (name ++ rest) ≡ mine) →
    nat_eq mine kind ≡ false → (pairs : List (ℕ × ℕ)) (rest : List ℕ) → IsOther kind rest →
    IsOther kind (pair_lines name pairs ++ rest)
other_pairs name mine kind is differs [] rest other = other
other_pairs name mine kind is differs (pair ∷ pairs) rest other =
    ap (λ (m : ℕ). nat_eq m kind) (pairs_begin name mine is pair pairs rest) ∙ differs

other_answers : (kind job : ℕ) → nat_eq 110 kind ≡ false → (answers : List Answer) (rest : List ℕ) →
    IsOther kind rest → IsOther kind (answer_lines job answers ++ rest)
other_answers kind job differs [] rest other = other
other_answers kind job differs (answer ∷ answers) rest other = differs

-- all lines, of which the last but `end` may be of a lost seat
abbrev lines : List TraceStep → List Answer → List (ℕ × ℕ) → List (ℕ × ℕ) → ℕ → List ℕ → List ℕ → List ℕ
lines trace answers lives handles slots listing last =
    step_lines trace ++ answer_lines 0 answers ++ live_lines lives ++ handle_lines handles ++ slots_line slots ++
    listing ++ last
    ++ codes "end\n"

lines_parts : (trace : List TraceStep) (answers : List Answer) (lives handles : List (ℕ × ℕ)) (slots : ℕ)
    (listing last : List ℕ) →
    lines trace answers lives handles slots listing last
    ≡ step_lines trace ++ (answer_lines 0 answers ++ (live_lines lives ++ (handle_lines handles
    ++ (slots_line slots ++ (listing ++ (last ++ codes "end\n"))))))
lines_parts trace answers lives handles slots listing last =
    nested (step_lines trace) (answer_lines 0 answers) (live_lines lives) (handle_lines handles) (slots_line slots)
    listing last (codes "end\n")
  where
    nested : (a b c d e f g h : List ℕ) →
        a ++ b ++ c ++ d ++ e ++ f ++ g ++ h ≡ a ++ (b ++ (c ++ (d ++ (e ++ (f ++ (g ++ h))))))
    nested a b c d e f g h = simp append_assoc

pub record AreSameLines (trace trace' : List TraceStep) (answers answers' : List Answer)
    (lives lives' handles handles' : List (ℕ × ℕ)) (slots slots' : ℕ) (listing listing' last last' : List ℕ)
    : Type 0 where
  pub traces : trace ≡ trace'
  pub answered : answers ≡ answers'
  pub live : lives ≡ lives'
  pub handled : handles ≡ handles'
  pub slots_left : slots ≡ slots'
  pub behind : listing ++ (last ++ codes "end\n") ≡ listing' ++ (last' ++ codes "end\n")

pub lines_tell : (trace trace' : List TraceStep) (answers answers' : List Answer)
    (lives lives' handles handles' : List (ℕ × ℕ)) (slots slots' : ℕ) (listing listing' last last' : List ℕ) →
    lines trace answers lives handles slots listing last
    ≡ lines trace' answers' lives' handles' slots' listing' last' →
    AreSameLines trace trace' answers answers' lives lives' handles handles' slots slots' listing listing' last last'
lines_tell trace trace' answers answers' lives lives' handles handles' slots slots' listing listing' last last' e =
    let four : List ℕ = listing ++ (last ++ codes "end\n") in
    let four' : List ℕ = listing' ++ (last' ++ codes "end\n") in
    let three : List ℕ = slots_line slots ++ four in
    let three' : List ℕ = slots_line slots' ++ four' in
    let two : List ℕ = handle_lines handles ++ three in
    let two' : List ℕ = handle_lines handles' ++ three' in
    let one : List ℕ = live_lines lives ++ two in
    let one' : List ℕ = live_lines lives' ++ two' in
    let a = steps_tell trace trace' (answer_lines 0 answers ++ one) (answer_lines 0 answers' ++ one')
    (other_answers 116 0 refl answers one (other_pairs (codes "live") 105 116 (λ _. refl) refl lives two
    (other_pairs (codes "handle") 97 116 (λ _. refl) refl handles three refl)))
    (other_answers 116 0 refl answers' one' (other_pairs (codes "live") 105 116 (λ _. refl) refl lives' two'
    (other_pairs (codes "handle") 97 116 (λ _. refl) refl handles' three' refl)))
    (sym (lines_parts trace answers lives handles slots listing last) ∙ e ∙ lines_parts trace' answers' lives'
    handles' slots' listing' last') in
    let b = answers_tell 0 answers answers' one one'
    (other_pairs (codes "live") 105 110 (λ _. refl) refl lives two
    (other_pairs (codes "handle") 97 110 (λ _. refl) refl handles three refl))
    (other_pairs (codes "live") 105 110 (λ _. refl) refl lives' two'
    (other_pairs (codes "handle") 97 110 (λ _. refl) refl handles' three' refl))
    a.1 in
    let c = pairs_tell (codes "live") 105 refl (λ _. refl) lives lives' two two'
    (other_pairs (codes "handle") 97 105 (λ _. refl) refl handles three refl)
    (other_pairs (codes "handle") 97 105 (λ _. refl) refl handles' three' refl) b.1 in
    let d = pairs_tell (codes "handle") 97 refl (λ _. refl) handles handles' three three' refl refl c.1 in
    let f = slots_tell slots slots' four four' d.1 in
    record {
      traces = a.0;
      answered = b.0;
      live = c.0;
      handled = d.0;
      slots_left = f.0;
      behind = f.1;
    }

-- where the last lines are the same, the listings are
pub listings_same : (listing listing' last last' : List ℕ) →
    listing ++ (last ++ codes "end\n") ≡ listing' ++ (last' ++ codes "end\n") → last ≡ last' → listing ≡ listing'
listings_same listing listing' last last' e same =
    append_cancel_right listing listing' (last ++ codes "end\n")
    (e ∙ ap (λ (l : List ℕ). listing' ++ (l ++ codes "end\n")) (sym same))
