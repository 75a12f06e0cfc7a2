use Rattle.fit_laws.proofs.Sent.{sent_fits}
use Rattle.fit_laws.proofs.laws.what_routers_send_fits.Goals as goal

pub returns : goal.returns
returns c chunks start run trace now fresh is bytes =
    sent_fits chunks start run trace now fresh is bytes
