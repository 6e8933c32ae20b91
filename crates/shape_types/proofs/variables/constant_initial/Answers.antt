use Rattle.std.proofs.Common.{None, ◌∙◌, ap, subst, sym}
use Rattle.shape_types.specs.FileWalk.{StartsAs, place_in}
use Rattle.shape_types.proofs.FileConstants.{initial_settled, none_starts}
use Rattle.shape_types.proofs.variables.constant_initial.Goals as goal

pub returns-in_default : goal.returns-in_default
returns-in_default c start k knows plain whole = subst (λ o. StartsAs (place_in start k) o None) (sym c.in_default.is) (none_starts (place_in start k))

pub returns : goal.returns
returns c start k knows plain whole =
    initial_settled start k c.args.file.now c.args.declared.now.known c.new-none.result c.file-site.result knows c.new-none.ensures c.file-site.ensures _ _ (ap (λ i. i.headers.entries) c.set_aside-earlier.ensures.instances ∙ c.begin_constant.ensures whole) c.in_ok-initial.ensures.met
    c.args.declarator.now.initial c.in_ok-initial.initial plain c.in_ok-initial.ensures.typed
