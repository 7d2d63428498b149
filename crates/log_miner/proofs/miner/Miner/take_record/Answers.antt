use Rattle.std.proofs.Common.{◌≡◌, sym, ap, ◌∙◌, ◌≤◌, arith}
use Rattle.log_miner.specs.Goes.{Goes}
use Rattle.log_miner.specs.Mining.{commits_in}
use Rattle.log_miner.specs.Stages.{commit_scn_after_all}
use Rattle.redo_spec.specs.Standing.{Standing}
use Rattle.log_miner.proofs.Commits.{one_commit, commit_scn_after_record}
use Rattle.log_miner.proofs.miner.Miner.take_record.Goals as goal

-- at least as many records as commits were taken, and the record's number fits
pub overflow_add-behind : goal.overflow_add-behind
overflow_add-behind c =
    let one : commits_in c.args.rec.now.vectors ≤ 1 =
    one_commit c.going.inside.law c.args.head.now c.args.rec.now c.in-Ok.ensures.exact in
    let counted : c.count_commits.result ≡ commits_in c.args.rec.now.vectors =
    c.count_commits.ensures ∙ ap commits_in c.items-vectors.ensures.same in
    let at : c.going.inside.law.rec ≡ c.args.going.standing.rec = ap (λ (g : Goes). g.standing.rec) c.going.view_is in
    omega (arith, one, counted, at, c.going.invariant.0, c.requires.next, c.ranges.number.fits)

pub invariant_of-behind : goal.invariant_of-behind
invariant_of-behind c =
    let s = c.going.inside.law in
    let r = c.args.rec.now in
    let one : commits_in r.vectors ≤ 1 = one_commit s c.args.head.now r c.in-Ok.ensures.exact in
    let counted : c.count_commits.result ≡ commits_in r.vectors =
    c.count_commits.ensures ∙ ap commits_in c.items-vectors.ensures.same in (
      omega (arith, one, counted, c.going.invariant.0, c.in-Ok.ensures.counted),
      ap (λ (st : Standing). st.commit_scn) c.in-Ok.ensures.admitted
          ∙ commit_scn_after_record c.args.head.now r s
          ∙ ap (λ n. commit_scn_after_all n r.scn r.vectors) c.going.invariant.1
          ∙ ap (commit_scn_after_all c.going.inside.commit_scn r.scn) (sym c.items-vectors.ensures.same)
          ∙ sym c.scn_after_all.ensures,
    )
