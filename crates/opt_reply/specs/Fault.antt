-- Why a delivery stopped, by the fault at which it did.
use Rattle.opt_base.specs.declared.outside.PutFault.{PutFault}
use Rattle.opt_base.specs.declared.outside.PutFault.TheVariants as put
use Rattle.opt_base.specs.declared.outside.SinkFault.{SinkFault}
use Rattle.opt_base.specs.declared.outside.SinkFault.TheVariants as sink
use Rattle.opt_reply.specs.declared.delivery.DeliveryFault.{DeliveryFault}
use Rattle.opt_reply.specs.declared.delivery.DeliveryFault.TheVariants.{Outside, OutOfMemory}

-- the fault of a put
abbrev pub fault_of_put : PutFault → DeliveryFault
fault_of_put put.Failed = Outside
fault_of_put put.OutOfMemory = OutOfMemory

-- the fault of a sink
abbrev pub fault_of_sink : SinkFault → DeliveryFault
fault_of_sink sink.Failed = Outside
fault_of_sink sink.OutOfMemory = OutOfMemory
