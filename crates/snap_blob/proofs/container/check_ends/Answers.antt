use Rattle.std.proofs.Common.{◌≡◌, ℕ, zero, suc, ◌-◌, List, ◌<◌, ◌+◌, sym, ◌∙◌, subst, ap, ◌*◌, refl, add-one, arith, inl}
use Rattle.spec_format.specs.declared.fault.BlobKind.TheVariants.{BadSections}
use Rattle.spec_format.specs.Check.{AllHold, each}
use Rattle.spec_format.specs.Container.{last_check, section_checks, section_count, section_end, section_start}
use Rattle.spec_format.proofs.Checks.{AllHold-append, FirstFault-left, FirstFault-right, each_fault, each_more}
use Rattle.snap_blob.proofs.container.check_ends.Goals as goal
use Rattle.snap_blob.proofs.container.check_ends.Goals.{then-end-start-via-then-end-start, then-end-start-via-else-end-start+then-bytes-end}

-- behind the last section
last_end : (bytes : List ℕ) (k n : ℕ) → k ≡ n → 0 < n → section_start bytes k ≡ section_end bytes (n - 1)
last_end bytes zero n e h = absurd (omega arith)
last_end bytes (suc k) n e h = let last : n - 1 ≡ k = omega arith in rw last refl

pub returns-then-end-start : goal.returns-then-end-start
returns-then-end-start c =
    let bytes = c.args.bytes.now in
    let k = c.loop-k.k in
    let below : k < section_count bytes = omega arith in
    FirstFault-left (each (section_count bytes) (section_checks bytes)) (last_check bytes) c.fault.result
    (each_fault (section_checks bytes) (section_count bytes) k c.fault.result below c.loop-k.invariant.ends
    (inl (λ h. elim c.then-end-start.branch [ then-end-start-via-then-end-start w ↦ omega arith | then-end-start-via-else-end-start+then-bytes-end w ↦ omega arith ], c.fault.ensures)))

pub loop-k-preserved : goal.loop-k-preserved
loop-k-preserved c = record {
  ends = each_more (section_checks c.args.bytes.now) c.loop-k.k c.loop-k.invariant.ends ((omega arith, omega arith), tt);
  begins = rw add-one c.number32-end.ensures;
}

pub returns-then-start-bytes : goal.returns-then-start-bytes
returns-then-start-bytes c =
    let bytes = c.args.bytes.now in
    let n-is : c.loop-k.k ≡ section_count bytes = omega arith in
    let last : c.loop-k.start ≡ section_end bytes (section_count bytes - 1) = c.loop-k.invariant.begins ∙ last_end bytes c.loop-k.k (section_count bytes) n-is (omega arith) in
    FirstFault-right (each (section_count bytes) (section_checks bytes)) (last_check bytes) c.fault-then-start-bytes.result
    (subst (λ (n : ℕ). AllHold (each n (section_checks bytes))) n-is c.loop-k.invariant.ends)
    (inl (λ h. c.if-start-bytes.true (last ∙ h), c.fault-then-start-bytes.ensures ∙ ap (λ (n : ℕ). record { kind = BadSections; at = 52 + 4 * (n - 1) }) c.number32-count.ensures))

pub returns : goal.returns
returns c =
    let bytes = c.args.bytes.now in
    let n-is : c.loop-k.k ≡ section_count bytes = omega arith in
    let last : c.loop-k.start ≡ section_end bytes (section_count bytes - 1) = c.loop-k.invariant.begins ∙ last_end bytes c.loop-k.k (section_count bytes) n-is (omega arith) in
    AllHold-append (each (section_count bytes) (section_checks bytes)) (last_check bytes)
    (subst (λ (n : ℕ). AllHold (each n (section_checks bytes))) n-is c.loop-k.invariant.ends)
    (sym last ∙ c.if-start-bytes.false, tt)
