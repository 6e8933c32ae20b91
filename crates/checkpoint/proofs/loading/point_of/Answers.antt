use Rattle.std.proofs.lemmas.Result.{err_from_is_err_and}
use Rattle.checkpoint.proofs.Bodies.{no_at, no_regs, no_returns, no_listing, no_bits, body_read}
use Rattle.checkpoint.proofs.loading.point_of.Goals as goal

pub returns-in_err-at-clause-short : goal.returns-in_err-at-clause-short
returns-in_err-at-clause-short c =
    let p = err_from_is_err_and c.from_residual.result c.from_residual.ensures.1 in
    rw (p.1, p.2) (λ is point rest few e. no_at _ point rest c.in_err-at.ensures.short e)

pub returns-in_err-regs-clause-short : goal.returns-in_err-regs-clause-short
returns-in_err-regs-clause-short c =
    let p = err_from_is_err_and c.from_residual-in_err-regs.result c.from_residual-in_err-regs.ensures.1 in
    rw (p.1, p.2) (λ is point rest few e. no_regs _ point rest _ _ few c.in_ok-at.ensures.read (c.in_err-regs.ensures.short is) e)

pub returns-in_err-returns-clause-short : goal.returns-in_err-returns-clause-short
returns-in_err-returns-clause-short c =
    let p = err_from_is_err_and c.from_residual-in_err-returns.result c.from_residual-in_err-returns.ensures.1 in
    rw (p.1, p.2) (λ is point rest few e. no_returns _ point rest _ _ _ _ few c.in_ok-at.ensures.read
    c.in_ok-regs.ensures.count c.in_ok-regs.ensures.read (c.in_err-returns.ensures.short is) e)

pub returns-in_err-listing-clause-short : goal.returns-in_err-listing-clause-short
returns-in_err-listing-clause-short c =
    let p = err_from_is_err_and c.from_residual-in_err-listing.result c.from_residual-in_err-listing.ensures.1 in
    rw (p.1, p.2) (λ is point rest few e. no_listing _ point rest _ _ _ _ _ _ few c.in_ok-at.ensures.read
    c.in_ok-regs.ensures.count c.in_ok-regs.ensures.read c.in_ok-returns.ensures.count c.in_ok-returns.ensures.read
    (c.in_err-listing.ensures.short is) e)

pub returns-in_err-bits-clause-short : goal.returns-in_err-bits-clause-short
returns-in_err-bits-clause-short c =
    let p = err_from_is_err_and c.from_residual-in_err-bits.result c.from_residual-in_err-bits.ensures.1 in
    rw (p.1, p.2) (λ is point rest few e. no_bits _ point rest _ _ _ _ _ _ _ _ few c.in_ok-at.ensures.read
    c.in_ok-regs.ensures.count c.in_ok-regs.ensures.read c.in_ok-returns.ensures.count c.in_ok-returns.ensures.read
    c.in_ok-listing.ensures.length c.in_ok-listing.ensures.read (c.in_err-bits.ensures.short is) e)

pub returns-clause-read : goal.returns-clause-read
returns-clause-read c =
    body_read _ _ _ _ _ _ _ c.in_ok-at.ensures.read c.in_ok-regs.ensures.read c.in_ok-returns.ensures.read
    c.in_ok-listing.ensures.read c.in_ok-bits.ensures.read
