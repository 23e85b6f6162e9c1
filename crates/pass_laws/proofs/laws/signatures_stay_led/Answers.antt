use Rattle.pass_laws.proofs.SignaturesLed.{signatures_led}
use Rattle.pass_laws.proofs.laws.signatures_stay_led.Goals as goal

pub returns : goal.returns
returns c = signatures_led
