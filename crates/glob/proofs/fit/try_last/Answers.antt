-- `glob::fit::try_last` meets its contract, by `last_law`.
use mathlib.Core.Path.{sym, ◌∙◌}
use native.Mathlib.Omega.{arith}
use Rattle.buffer.specs.Lists.{none}
use Rattle.glob.specs.Labels.{labels_of}
use Rattle.glob.specs.Fit.{first, fits_label}
use Rattle.glob.proofs.Trials.{never_twice}
use Rattle.glob.proofs.Cuts.{no_label, last_law}
use Rattle.glob.proofs.fit.try_last.Goals as goal

pub returns-in_default : goal.returns-in_default
returns-in_default c = rw (no_label c.args.path.now c.in_default.ensures)

pub returns-then-label_fits : goal.returns-then-label_fits
returns-then-label_fits c =
    let l = c.in-Some.ensures in
    last_law (fits_label c.args.p.now) c.args.path.now c.in-Some.a (omega (arith, l.1)) l.0 l.2 ∙ sym c.label_fits.ensures ∙ c.if-label_fits.true

pub returns : goal.returns
returns c =
    let l = c.in-Some.ensures in
    let f = fits_label c.args.p.now in
    never_twice (first f none) (labels_of c.args.path.now) (last_law f c.args.path.now c.in-Some.a (omega (arith, l.1)) l.0 l.2 ∙ sym c.label_fits.ensures ∙ c.if-label_fits.false)
